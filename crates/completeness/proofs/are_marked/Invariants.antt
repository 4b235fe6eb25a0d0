use Rattle.completeness.specs.Complete.{all}
use Rattle.starts.specs.Starts.{starts_of}
use Rattle.marked.specs.Marked.{marked}
use Rattle.determine_side_effects.specs.graph_crate.Check.{graph_in}
use lib.ListN.{drop}
use Prim.Native.Nat.{◌≤◌}
use mathlib.Core.Path.{◌≡◌}
use Rattle.completeness.proofs.are_marked.Given as goal

abbrev pub invariant-loop-i : goal.invariant-loop-i
invariant-loop-i l = (l.i ≤ l.count) × (all (marked (graph_in l.numbers) l.marks) (drop l.i (starts_of l.starts)) ≡ all (marked (graph_in l.numbers) l.marks) (starts_of l.starts))
