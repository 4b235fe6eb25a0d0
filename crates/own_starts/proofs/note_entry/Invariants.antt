use Rattle.own_starts.proofs.Noting.{Along}
use Rattle.entry_starts.proofs.Referring.{referred_from}
use Rattle.entry_starts.specs.Starts.{module_starts}
use Rattle.facts.specs.graph_crate.Check.{graph_in}
use lib.ListN.{length}
use Prim.Native.Nat.{◌≤◌}
use mathlib.Core.Path.{◌≡◌}
use Rattle.own_starts.proofs.note_entry.Given as goal

abbrev pub invariant-loop-k : goal.invariant-loop-k
invariant-loop-k l = (length l.seen ≡ length l.initial.seen) × (length l.out ≡ length l.initial.out) × (l.k ≤ l.references) × Along (graph_in l.numbers) (module_starts (graph_in l.numbers) l.m.0) (referred_from (graph_in l.numbers) l.m.0 l.k) l.initial.seen l.initial.out l.initial.total l.seen l.out l.total
