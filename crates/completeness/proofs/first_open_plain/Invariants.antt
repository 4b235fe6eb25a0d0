use Rattle.completeness.proofs.Walks.{fact_closed}
use Rattle.completeness.specs.Complete.{all, are_closed}
use Rattle.keep_record.specs.Held.{lines_of}
use Rattle.determine_side_effects.specs.Effects.{last_verdicts}
use Rattle.marked.specs.Marked.{marked}
use Rattle.determine_side_effects.specs.graph_crate.Check.{graph_in}
use lib.ListN.{length, drop}
use Prim.Native.Nat.{◌/◌, ◌≤◌}
use mathlib.Core.Path.{◌≡◌}
use Rattle.completeness.proofs.first_open_plain.Given as goal

abbrev pub invariant-loop-k : goal.invariant-loop-k
invariant-loop-k l = (l.k ≤ l.count) × (all (fact_closed (graph_in l.numbers) (last_verdicts (graph_in l.numbers)) (marked (graph_in l.numbers) l.marks)) (drop l.k (lines_of (length l.lines / 6) l.lines)) ≡ are_closed (graph_in l.numbers) (last_verdicts (graph_in l.numbers)) (marked (graph_in l.numbers) l.marks) (lines_of (length l.lines / 6) l.lines))
