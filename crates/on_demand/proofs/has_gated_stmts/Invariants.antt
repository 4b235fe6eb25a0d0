use Prim.Native.Nat.{◌-◌}
use mathlib.Core.Path.{◌≡◌}
use Rattle.determine_side_effects.specs.graph_crate.Check.{graph_in}
use Rattle.determine_side_effects.specs.graph_access_crate.Words.{some, tabulate}
use Rattle.on_demand.specs.Demand.{gated, has_gated}
use Rattle.on_demand.proofs.has_gated_stmts.Given as goal

abbrev pub invariant-loop-i : goal.invariant-loop-i
invariant-loop-i l = some (gated (graph_in l.numbers) l.m.0) (tabulate (λ i. i) l.i (l.count - l.i)) ≡ has_gated (graph_in l.numbers) l.m.0
