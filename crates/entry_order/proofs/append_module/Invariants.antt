use lib.ListN.{length}
use Rattle.facts.specs.graph_crate.Check.{graph_in}
use Rattle.entry_order.proofs.Places.{left_at}
use Rattle.entry_order.proofs.Appending.{Along}
use Rattle.entry_order.proofs.append_module.Given as goal

abbrev pub invariant-loop-at : goal.invariant-loop-at
invariant-loop-at l = Along (graph_in l.numbers) l.list l.count l.first l.n l.initial.out l.at l.k l.out

abbrev pub decreases-loop-at : goal.decreases-loop-at
decreases-loop-at l = length (left_at (graph_in l.numbers) l.list l.first l.count l.at)
