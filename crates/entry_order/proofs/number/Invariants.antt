use Prim.Native.Nat.{◌-◌}
use Rattle.facts.specs.graph_access_crate.Words.{tabulate}
use Rattle.entry_order.proofs.Filling.{Filling}
use Rattle.entry_order.proofs.number.Given as goal

abbrev pub invariant-loop-e : goal.invariant-loop-e
invariant-loop-e l = Filling 0 (tabulate (λ j. j) 0 l.count) l.initial.plan l.e (tabulate (λ j. j) l.e (l.count - l.e)) l.plan
