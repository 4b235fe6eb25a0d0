use Rattle.facts.specs.graph_crate.Check.{graph_in}
use Rattle.entry_order.proofs.Copying.{Copying}
use Rattle.entry_order.proofs.copy_kind.Given as goal

abbrev pub invariant-loop-i : goal.invariant-loop-i
invariant-loop-i l = Copying (graph_in l.numbers) l.dynamic l.list l.count l.at l.initial.plan l.i l.to l.plan
