use Rattle.own_starts.proofs.Noting.{Along}
use Rattle.own_starts.proofs.Live.{lives_from}
use Rattle.tree_shaking.specs.Own.{live_starts}
use Rattle.entry_order.specs.Plan.{live_in}
use Rattle.facts.specs.graph_tables_crate.Tables.{header_in}
use Rattle.facts.specs.graph_crate.Check.{graph_in}
use Prim.Native.Nat.{◌≤◌}
use mathlib.Core.Path.{◌≡◌}
use lib.ListN.{length}
use Rattle.own_starts.proofs.note_live_modules.Given as goal

abbrev pub invariant-loop-m : goal.invariant-loop-m
invariant-loop-m l = (length l.seen ≡ length l.initial.seen) × (length l.out ≡ length l.initial.out) × (l.m ≤ l.m-end) × Along (graph_in l.numbers) (live_starts (graph_in l.numbers) (live_in (header_in l.numbers) l.plan) 0 (header_in l.numbers).modules) (lives_from (graph_in l.numbers) (header_in l.numbers) l.plan l.m) l.initial.seen l.initial.out l.initial.total l.seen l.out l.total
