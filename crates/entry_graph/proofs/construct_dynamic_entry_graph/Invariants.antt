use Prim.Native.Nat.{◌+◌, ◌*◌, ◌-◌}
use Rattle.bit_row.specs.Row.{bit_at}
use Rattle.graph_access.specs.graph_tables_crate.Tables.{header_in}
use Rattle.graph_access.specs.graph_crate.Check.{graph_in}
use Rattle.entry_graph.specs.Memory.{ordering_in}
use Rattle.entry_graph.proofs.Deep.{fresh}
use Rattle.entry_graph.proofs.Walking.{take_from}
use Rattle.entry_graph.proofs.Frames.{Stacked}
use Rattle.entry_graph.proofs.construct_dynamic_entry_graph.Given as goal

abbrev pub invariant-loop-i : goal.invariant-loop-i
invariant-loop-i l =
    Stacked (graph_in l.numbers) (header_in l.numbers).modules l.cap (take_from (graph_in l.numbers) ((header_in l.numbers).modules - 1) l.initial.root l.initial.m 0 (ordering_in (header_in l.numbers).modules l.cap l.initial.visited l.initial.nodes l.n l.initial.outs l.initial.succs))
    l.records l.walks l.visited l.nodes l.outs l.succs l.edges l.root l.m l.k l.c l.depth

-- each walk that starts visits a module, and each that ends takes a frame away
abbrev pub decreases-loop-i : goal.decreases-loop-i
decreases-loop-i l = 2 * fresh (header_in l.numbers).modules (bit_at l.visited) + l.depth
