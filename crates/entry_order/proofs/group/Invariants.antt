use Rattle.facts.specs.graph_crate.Check.{graph_in}
use Rattle.entry_order.proofs.Grouping.{Going}
use Rattle.entry_order.proofs.group.Given as goal

abbrev pub invariant-loop-i : goal.invariant-loop-i
invariant-loop-i l = Going (graph_in l.numbers) l.list l.count l.initial.out l.i l.n l.out
