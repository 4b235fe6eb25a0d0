use Rattle.graph_access.specs.graph_tables_crate.Tables.{header_in}
use Rattle.graph_access.specs.graph_crate.Check.{graph_in}
use Rattle.entry_graph.specs.Memory.{ordering_in}
use Rattle.entry_graph.proofs.Walking.{take_from, Going}
use Rattle.entry_graph.proofs.take_records.Given as goal

abbrev pub invariant-loop-i : goal.invariant-loop-i
invariant-loop-i l =
    Going (graph_in l.numbers) (header_in l.numbers).modules l.cap l.fuel l.root.0 l.m.0 l.visited (take_from (graph_in l.numbers) l.fuel l.root.0 l.m.0 l.k (ordering_in (header_in l.numbers).modules l.cap l.visited l.initial.nodes l.n l.initial.outs l.initial.succs)) l.nodes l.outs l.succs l.edges l.c l.i
