-- A module counts as on a cycle exactly if it is strongly connected with another node of the graph of dynamic entries.
use Prim.Native.Nat.{ℕ}
use mathlib.Core.Path.{◌≡◌}
use mathlib.Core.Logic.{◌↔◌}
use mathlib.Core.Bool.{true}
use mathlib.Core.List.{List}
use Rattle.determine_side_effects.specs.graph_crate.Check.{Graph, graph_in}
use Rattle.determine_side_effects.specs.graph_crate.Loaded.{Loaded}
use Rattle.entry_graph.specs.Ordering.{entry_graph}
use Rattle.entry_graph.proofs.Made.{Made, entry_graph_made}
use Rattle.cycles.specs.Cycles.{OnCycle}
use Rattle.cycles.proofs.Strong.{cycled_cycles, cycles_cycled}
use Rattle.dynamic_entries.specs.Sorted.{on_cycle}

-- of a graph whose nodes are modules and which has both ends of each edge as nodes
made_cycles : (g : Graph) → Made g.header.modules (entry_graph g) → (m : ℕ) → (on_cycle g m ≡ true) ↔ OnCycle (entry_graph g).succs m
unfolding on_cycle
made_cycles g made m = (
  cycled_cycles (entry_graph g).succs g.header.modules (entry_graph g).nodes made.below made.ends m,
  cycles_cycled (entry_graph g).succs g.header.modules (entry_graph g).nodes made.below made.ends m,
)

pub on_cycle_is : {numbers tables : List ℕ} → Loaded numbers tables → (m : ℕ) → (on_cycle (graph_in numbers) m ≡ true) ↔ OnCycle (entry_graph (graph_in numbers)).succs m
on_cycle_is {numbers} t m = made_cycles (graph_in numbers) (entry_graph_made t) m
