use Rattle.own_starts.proofs.Noting.{Along}
use Rattle.entry_starts.proofs.Declaring.{declared_from}
use Rattle.entry_starts.specs.Starts.{declared}
use Rattle.facts.specs.graph_crate.Check.{graph_in}
use lib.ListN.{length}
use Prim.Native.Nat.{◌≤◌}
use mathlib.Core.Path.{◌≡◌}
use Rattle.own_starts.proofs.note_declaring_statements.Given as goal

abbrev pub invariant-loop-i : goal.invariant-loop-i
invariant-loop-i l = (length l.seen ≡ length l.initial.seen) × (length l.out ≡ length l.initial.out) × (l.i ≤ l.declaring) × Along (graph_in l.numbers) (declared (graph_in l.numbers) l.s.0) (declared_from (graph_in l.numbers) l.s.0 l.i) l.initial.seen l.initial.out l.initial.total l.seen l.out l.total
