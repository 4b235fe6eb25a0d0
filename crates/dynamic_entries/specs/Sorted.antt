-- The order of the dynamic entries (docs/RULES.md, Step 2; 003:92-128, `sort_dynamic_entries_by_topological_order`).
use Rattle.std.specs.Prelude.{ℕ, Bool, true, false, not, ◌||◌, List, [], ◌∷◌, ◌++◌, eqb}
use Rattle.determine_side_effects.specs.graph_crate.Check.{Graph}
use Rattle.keep_record.specs.Lines.{elem}
use Rattle.entry_order.specs.Order.{those, module_of_entry, dynamic_entries}
use Rattle.entry_graph.specs.Ordering.{entry_graph}
use Rattle.cycles.specs.Search.{finished}
use Rattle.cycles.specs.Cycles.{cycled}

-- the modules of the ordering graph as the walk completes them, the last first; those on a cycle
unfoldable pub completion : Graph → List ℕ
completion g = finished (entry_graph g).succs g.header.modules (entry_graph g).nodes

unfoldable pub on_cycle : Graph → ℕ → Bool
on_cycle g m = elem m (cycled (entry_graph g).succs g.header.modules (entry_graph g).nodes)

-- entries that go first: of modules on a cycle or outside the graph, which have no place among the components of one node
unfoldable pub goes_first : Graph → ℕ → Bool
goes_first g m = on_cycle g m || not (elem m (entry_graph g).nodes)

-- the others by the number of their component, from the highest down; one of a single node gets its number when the node is completed. So from
-- the node that was completed last down, the entries of each that is on no cycle
unfoldable pub by_completion : Graph → List ℕ → List ℕ → List ℕ
by_completion g entries [] = []
by_completion g entries (m ∷ ms) =
    elim (on_cycle g m) [
      | true ↦ by_completion g entries ms
      | false ↦ those (λ e. eqb (module_of_entry g e) m) entries ++ by_completion g entries ms
    ]

unfoldable pub sorted_entries : Graph → List ℕ
sorted_entries g = those (λ e. goes_first g (module_of_entry g e)) (dynamic_entries g) ++ by_completion g (dynamic_entries g) (completion g)
