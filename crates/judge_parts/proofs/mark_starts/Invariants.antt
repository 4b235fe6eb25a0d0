use Rattle.fact_marks.specs.Marks.{Marks}
use Rattle.starts.specs.Starts.{starts_of}
use Rattle.determine_side_effects.specs.graph_crate.Check.{graph_in}
use lib.ListN.{length, take}
use Prim.Native.Nat.{◌≤◌}
use mathlib.Core.Path.{◌≡◌}
use Rattle.judge_parts.proofs.mark_starts.Given as goal

abbrev pub invariant-loop-i : goal.invariant-loop-i
invariant-loop-i l = (length l.begun ≡ length l.initial.begun) × (l.i ≤ l.count) × Marks (graph_in l.numbers) (take l.i (starts_of l.starts)) l.begun
