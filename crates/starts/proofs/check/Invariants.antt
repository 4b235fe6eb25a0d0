use Rattle.starts.specs.Starts.{starts_fault}
use Prim.Native.Nat.{◌-◌, ◌≤◌}
use Rattle.determine_side_effects.specs.graph_crate.Check.{graph_in}
use mathlib.Core.Path.{◌≡◌}
use Rattle.starts.proofs.check.Given as goal

abbrev pub invariant-loop-i : goal.invariant-loop-i
invariant-loop-i l = (l.i ≤ l.triples) × (starts_fault (graph_in l.numbers) l.starts l.i (l.triples - l.i) ≡ starts_fault (graph_in l.numbers) l.starts 0 l.triples)
