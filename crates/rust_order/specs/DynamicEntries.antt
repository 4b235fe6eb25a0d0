-- The order of dynamic entries in dynamic_entries.rs (003): the walk as it stands, and the sort, under the Rust's names. An entry is its number in
-- the graph. Nothing here is taken from the definitions of the port: only the words of the decoded graph.
use Rattle.std.specs.Prelude.{ℕ, zero, suc, ◌+◌, ◌<◌, ◌≡◌, Bool, true, false, List, [], ◌∷◌, ◌++◌, map, eqb, ltb, length, get_or}
use Rattle.graph_access.specs.graph_crate.Check.{Graph}
use Rattle.graph_access.specs.Names.{import_records, import_record_target, import_record_kind, entry_module}
use Rattle.graph_access.specs.Words.{module_of, normal, entry_of}
use Rattle.keep_record.specs.Lines.{elem}
use Rattle.keep_record.specs.Held.{Distinct}
use Rattle.rust_values.specs.Values.{Pair, pair, has_pair, Found, none, found, optional, filter, In}

-- entry.idx
unfoldable pub entry_idx : Graph → ℕ → ℕ
entry_idx g e = entry_module (entry_of g e)

-- petgraph's DiGraphMap ------------------------------------------------------------------------------------------------------------------

-- nodes by first mention, edges by first adding
pub record DiGraphMap : Type 0 where
  pub nodes : List ℕ
  pub edges : List Pair

abbrev pub no_graph : DiGraphMap
no_graph = record { nodes = []; edges = [] }

unfoldable pub insert_node : ℕ → List ℕ → List ℕ
insert_node m nodes = elim (elem m nodes) [ true ↦ nodes | false ↦ nodes ++ (m ∷ []) ]

unfoldable pub add_edge : ℕ → ℕ → DiGraphMap → DiGraphMap
add_edge a b d =
    elim (has_pair a b d.edges) [
      | true ↦ d
      | false ↦ record { nodes = insert_node b (insert_node a d.nodes); edges = d.edges ++ (pair a b ∷ []) }
    ]

unfoldable pub neighbors : DiGraphMap → ℕ → List ℕ
neighbors d u = map (λ p. p.second) (filter (λ p. eqb p.first u) d.edges)

-- construct_dynamic_entry_graph (003:130-165) --------------------------------------------------------------------------------------------

pub record Walking : Type 0 where
  pub graph : DiGraphMap
  pub visited : List ℕ

unfoldable pub insert_visited : ℕ → Walking → Walking
insert_visited m w = record { graph = w.graph; visited = m ∷ w.visited }

unfoldable pub with_edge : ℕ → ℕ → Walking → Walking
with_edge a b w = record { graph = add_edge a b w.graph; visited = w.visited }

-- a call with `root_node` and `cur_node`; its loop over the import records that are left
pub data Call : Type 0 where
  construct : ℕ → ℕ → Call
  records : ℕ → List (List ℕ) → Call

-- a call returns
pub data Constructs (g : Graph) : Call → Walking → Walking → Type 0 where
  -- if visited.contains(&cur_node) (003:137)
  was_visited : (root cur : ℕ) (w : Walking) → elem cur w.visited ≡ true → Constructs g (construct root cur) w w
  -- as_normal()? (003:141)
  is_external : (root cur : ℕ) (w : Walking) → elem cur w.visited ≡ false → normal g cur ≡ false → Constructs g (construct root cur) w (insert_visited cur w)
  is_normal : (root cur : ℕ) (w z : Walking) → elem cur w.visited ≡ false → normal g cur ≡ true
      → Constructs g (records root (import_records (module_of g cur))) (insert_visited cur w) z → Constructs g (construct root cur) w z
  no_more : (root : ℕ) (w : Walking) → Constructs g (records root []) w w
  -- else { continue } (003:143-145)
  unresolved : (root : ℕ) (row : List ℕ) (rows : List (List ℕ)) (w z : Walking) → optional (import_record_target row) ≡ none
      → Constructs g (records root rows) w z → Constructs g (records root (row ∷ rows)) w z
  -- a dynamic import of another module than the root, seen before (003:147-153)
  dynamic_seen : (root t : ℕ) (row : List ℕ) (rows : List (List ℕ)) (w z : Walking) → optional (import_record_target row) ≡ found t → eqb (import_record_kind row) 2 ≡ true
      → eqb root t ≡ false → elem t w.graph.nodes ≡ true → Constructs g (records root rows) (with_edge root t w) z → Constructs g (records root (row ∷ rows)) w z
  -- not seen before: an edge, and walked as a root of its own (003:147-150, 155-159)
  dynamic_unseen : (root t : ℕ) (row : List ℕ) (rows : List (List ℕ)) (w y z : Walking) → optional (import_record_target row) ≡ found t → eqb (import_record_kind row) 2 ≡ true
      → eqb root t ≡ false → elem t w.graph.nodes ≡ false → Constructs g (construct t t) (with_edge root t w) y → Constructs g (records root rows) y z
      → Constructs g (records root (row ∷ rows)) w z
  -- of the root itself: no edge, and walked (003:148, 155-159)
  dynamic_own : (root t : ℕ) (row : List ℕ) (rows : List (List ℕ)) (w y z : Walking) → optional (import_record_target row) ≡ found t → eqb (import_record_kind row) 2 ≡ true
      → eqb root t ≡ true → Constructs g (construct t t) w y → Constructs g (records root rows) y z → Constructs g (records root (row ∷ rows)) w z
  -- any other import (003:162)
  static : (root t : ℕ) (row : List ℕ) (rows : List (List ℕ)) (w y z : Walking) → optional (import_record_target row) ≡ found t → eqb (import_record_kind row) 2 ≡ false
      → Constructs g (construct root t) w y → Constructs g (records root rows) y z → Constructs g (records root (row ∷ rows)) w z

-- the loop over the dynamic entries (003:101-106): the graph is shared, `visited` is new for each
pub data FromEntries (g : Graph) : List ℕ → DiGraphMap → DiGraphMap → Type 0 where
  no_more : (d : DiGraphMap) → FromEntries g [] d d
  one : (e : ℕ) (es : List ℕ) (d z : DiGraphMap) (w : Walking) → Constructs g (construct (entry_idx g e) (entry_idx g e)) (record { graph = d; visited = [] }) w
      → FromEntries g es w.graph z → FromEntries g (e ∷ es) d z

-- petgraph's tarjan_scc ------------------------------------------------------------------------------------------------------------------
-- Its code is not among the sources. Said of it here: its components are the strongly connected ones by the published definition, and they stand in
-- the order in which the depth-first walk completes them (docs/RULES.md, Step 2).

-- one node reaches another by edges; a path may be empty
pub data Path (succs : ℕ → List ℕ) : ℕ → ℕ → Type 0 where
  here : (m : ℕ) → Path succs m m
  along : (m n o : ℕ) → In n (succs m) → Path succs n o → Path succs m o

-- a depth-first walk over nodes in turn: which were entered, and those that were completed, the last first
pub record Entered : Type 0 where
  pub entered : List ℕ
  pub completed : List ℕ

abbrev pub unentered : Entered
unentered = record { entered = []; completed = [] }

unfoldable pub enter : ℕ → Entered → Entered
enter m s = record { entered = m ∷ s.entered; completed = s.completed }

unfoldable pub complete : ℕ → Entered → Entered
complete m s = record { entered = s.entered; completed = m ∷ s.completed }

pub data DepthFirst (succs : ℕ → List ℕ) : List ℕ → Entered → Entered → Type 0 where
  no_more : (s : Entered) → DepthFirst succs [] s s
  was_entered : (m : ℕ) (ms : List ℕ) (s z : Entered) → elem m s.entered ≡ true → DepthFirst succs ms s z → DepthFirst succs (m ∷ ms) s z
  enters : (m : ℕ) (ms : List ℕ) (s y z : Entered) → elem m s.entered ≡ false → DepthFirst succs (succs m) (enter m s) y
      → DepthFirst succs ms (complete m y) z → DepthFirst succs (m ∷ ms) s z

-- m stands before n in a list
pub record Before (m n : ℕ) (xs : List ℕ) : Type 0 where
  pub front : List ℕ
  pub back : List ℕ
  pub parts : xs ≡ front ++ (m ∷ back)
  pub then : In n back

-- component i
abbrev pub component : List (List ℕ) → ℕ → List ℕ
component sccs i = get_or sccs i []

pub record TarjanScc (succs : ℕ → List ℕ) (nodes : List ℕ) (sccs : List (List ℕ)) : Type 0 where
  -- every node is in a component, and only nodes; none is empty, none has a node twice
  pub place : (m : ℕ) → In m nodes → ℕ
  pub inside : (m : ℕ) (h : In m nodes) → place m h < length sccs
  pub covers : (m : ℕ) (h : In m nodes) → In m (component sccs (place m h))
  pub of_nodes : (i m : ℕ) → i < length sccs → In m (component sccs i) → In m nodes
  pub not_empty : (i : ℕ) → i < length sccs → 0 < length (component sccs i)
  pub apart : (i : ℕ) → i < length sccs → Distinct (component sccs i)
  -- two nodes are in one component exactly if each reaches the other
  pub connected : (i m n : ℕ) → i < length sccs → In m (component sccs i) → In n (component sccs i) → Path succs m n
  pub maximal : (i j m n : ℕ) → i < length sccs → j < length sccs → In m (component sccs i) → In n (component sccs j) → Path succs m n → Path succs n m → i ≡ j
  -- they stand in the order in which the walks of their nodes are all completed
  pub end : Entered
  pub walked : DepthFirst succs nodes unentered end
  pub last : ℕ → ℕ
  pub last_of : (j : ℕ) → j < length sccs → In (last j) (component sccs j)
  pub numbered : (i j m : ℕ) → i < j → j < length sccs → In m (component sccs i) → Before (last j) m end.completed

-- sort_dynamic_entries_by_topological_order (003:92-128) ---------------------------------------------------------------------------------

-- `cycled_dynamic_entries`: the components of more than one (003:114-117)
unfoldable pub cycled_dynamic_entries : List (List ℕ) → List ℕ
cycled_dynamic_entries [] = []
cycled_dynamic_entries (scc ∷ sccs) = elim (ltb 1 (length scc)) [ true ↦ scc ++ cycled_dynamic_entries sccs | false ↦ cycled_dynamic_entries sccs ]

-- `idx_to_order_map` (003:110-121): the number of the component that has only this node; components are counted from i
unfoldable pub order_from : ℕ → List (List ℕ) → ℕ → Found
order_from i [] m = none
order_from i (scc ∷ sccs) m =
    elim (ltb 1 (length scc)) [
      | true ↦ order_from (i + 1) sccs m
      | false ↦ elim (eqb (get_or scc 0 0) m) [ true ↦ found i | false ↦ order_from (i + 1) sccs m ]
    ]

-- the sort key (003:124-126): Reverse(usize::MAX) is before every Reverse(order), and a higher order before a lower one; whether a key is less
unfoldable pub is_less : Found → Found → Bool
is_less none none = false
is_less none (found b) = true
is_less (found a) none = false
is_less (found a) (found b) = ltb b a

-- slice::sort_by_key, which is stable: an element goes before the first that is not less
unfoldable pub insert_by_key : (ℕ → Found) → ℕ → List ℕ → List ℕ
insert_by_key key x [] = x ∷ []
insert_by_key key x (y ∷ ys) = elim (is_less (key y) (key x)) [ true ↦ y ∷ insert_by_key key x ys | false ↦ x ∷ y ∷ ys ]

unfoldable pub sort_by_key : (ℕ → Found) → List ℕ → List ℕ
sort_by_key key [] = []
sort_by_key key (x ∷ xs) = insert_by_key key x (sort_by_key key xs)

-- the entries sorted, and the modules on cycles
pub record SortDynamicEntriesByTopologicalOrder (g : Graph) (entries sorted cycled : List ℕ) : Type 0 where
  pub graph : DiGraphMap
  pub sccs : List (List ℕ)
  pub constructed : FromEntries g entries no_graph graph
  pub components : TarjanScc (neighbors graph) graph.nodes sccs
  pub cycled_are : cycled ≡ cycled_dynamic_entries sccs
  pub sorted_are : sorted ≡ sort_by_key (λ e. order_from 0 sccs (entry_idx g e)) entries
