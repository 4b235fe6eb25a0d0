-- The graph by which dynamic entries are ordered (003:130-165, `construct_dynamic_entry_graph`, written over).
use Rattle.std.specs.Prelude.{ℕ, zero, suc, ◌-◌, Bool, true, false, ◌||◌, List, [], ◌∷◌, ◌++◌, eqb}
use Rattle.graph_access.specs.graph_crate.Check.{Graph}
use Rattle.graph_access.specs.Names.{import_records, import_record_target, import_record_kind}
use Rattle.graph_access.specs.Words.{module_of, normal}
use Rattle.keep_record.specs.Lines.{elem}
use Rattle.entry_order.specs.Order.{module_of_entry, dynamic_entries}

-- The `DiGraphMap` and the visited set: nodes are modules, by first mention; a node's successors, by first adding.
pub record Ordering : Type 0 where
  pub visited : ℕ → Bool
  pub nodes : List ℕ
  pub succs : ℕ → List ℕ

-- nothing was visited; no graph
unfoldable pub nothing : ℕ → Bool
nothing m = false

unfoldable pub no_edges : ℕ → List ℕ
no_edges m = []

abbrev pub no_ordering : Ordering
no_ordering = record { visited = nothing; nodes = []; succs = no_edges }

-- one more in a list, unless it is there
unfoldable pub put : ℕ → List ℕ → List ℕ
put x xs = elim (elem x xs) [ true ↦ xs | false ↦ xs ++ x ∷ [] ]

unfoldable pub put_succ : ℕ → ℕ → (ℕ → List ℕ) → ℕ → List ℕ
put_succ from to succs u = elim (eqb u from) [ true ↦ put to (succs u) | false ↦ succs u ]

-- `add_edge`: both ends become nodes, the first one first; a second adding changes nothing
unfoldable pub add_edge : ℕ → ℕ → Ordering → Ordering
add_edge from to s = record { visited = s.visited; nodes = put to (put from s.nodes); succs = put_succ from to s.succs }

unfoldable pub visit : ℕ → Ordering → Ordering
visit m s = record { visited = λ x. eqb x m || s.visited x; nodes = s.nodes; succs = s.succs }

-- A dynamic import of t by the present root: an import of the root itself adds no edge but is walked; an edge to a node seen before is
-- added but not walked (003:146-159). `go` walks on from a module, with a root.
unfoldable pub dynamic_import : (ℕ → ℕ → Ordering → Ordering) → ℕ → ℕ → Ordering → Ordering
dynamic_import go root t s =
    elim (eqb root t) [
      | true ↦ go t t s
      | false ↦ elim (elem t s.nodes) [ true ↦ add_edge root t s | false ↦ go t t (add_edge root t s) ]
    ]

-- one import record of the module that is visited; an unresolved one is passed over
unfoldable pub import_record : (ℕ → ℕ → Ordering → Ordering) → ℕ → List ℕ → Ordering → Ordering
import_record go root row s =
    elim (eqb (import_record_target row) 0) [
      | true ↦ s
      | false ↦ elim (eqb (import_record_kind row) 2) [
        | true ↦ dynamic_import go root (import_record_target row - 1) s
        | false ↦ go root (import_record_target row - 1) s
      ]
    ]

unfoldable pub all_records : (ℕ → ℕ → Ordering → Ordering) → ℕ → List (List ℕ) → Ordering → Ordering
all_records go root [] s = s
all_records go root (row ∷ rows) s = all_records go root rows (import_record go root row s)

-- The walk from module m under a root. Each level visits one more module, so as many levels as there are modules suffice
-- (`construct_deep` in proofs/Deep.antt).
unfoldable pub construct : Graph → ℕ → ℕ → ℕ → Ordering → Ordering
construct g zero root m s = s
construct g (suc fuel) root m s =
    elim (s.visited m) [
      | true ↦ s
      | false ↦ elim (normal g m) [
        | true ↦ all_records (λ r t q. construct g fuel r t q) root (import_records (module_of g m)) (visit m s)
        | false ↦ visit m s
      ]
    ]

-- a dynamic entry: nothing is visited at first, the graph is shared (003:101-106)
unfoldable pub from_entry : Graph → ℕ → Ordering → Ordering
from_entry g m s = construct g g.header.modules m m (record { visited = nothing; nodes = s.nodes; succs = s.succs })

unfoldable pub from_entries : Graph → List ℕ → Ordering → Ordering
from_entries g [] s = s
from_entries g (e ∷ es) s = from_entries g es (from_entry g (module_of_entry g e) s)

unfoldable pub entry_graph : Graph → Ordering
entry_graph g = from_entries g (dynamic_entries g) no_ordering
