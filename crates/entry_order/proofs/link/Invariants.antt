use Rattle.facts.specs.graph_crate.Check.{graph_in}
use Rattle.entry_order.proofs.Linking.{Linked}
use Rattle.entry_order.proofs.link.Given as goal

abbrev pub invariant-loop-i : goal.invariant-loop-i
invariant-loop-i l = Linked (graph_in l.numbers) l.list l.count l.i l.chain
