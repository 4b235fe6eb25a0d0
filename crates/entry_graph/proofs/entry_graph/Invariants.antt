use lib.ListN.{take}
use Rattle.graph_access.specs.graph_crate.Check.{graph_in}
use Rattle.entry_graph.proofs.Entries.{Building}
use Rattle.entry_graph.proofs.entry_graph.Given as goal

abbrev pub invariant-loop-i : goal.invariant-loop-i
invariant-loop-i l = Building (graph_in l.numbers) l.cap (take l.count l.list) l.visited l.nodes l.outs l.succs l.edges l.n l.i
