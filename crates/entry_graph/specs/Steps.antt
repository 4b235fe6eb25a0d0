-- What the steps of the walk leave: a node put, an edge added, an import record taken.
use Rattle.std.specs.Prelude.{ℕ, ◌+◌, ◌<◌, ◌≡◌, Bool, true, false, List, [], get_or, set, drop}
use Rattle.graph_access.specs.index_crate.declared.ModuleIdx.{ModuleIdx}
use Rattle.graph_access.specs.graph_crate.Check.{Graph}
use Rattle.graph_access.specs.Names.{import_records}
use Rattle.graph_access.specs.Words.{module_of, normal}
use Rattle.bit_row.specs.Row.{bit_at}
use Rattle.keep_record.specs.Lines.{elem}
use Rattle.entry_graph.specs.declared.Built.{Built}
use Rattle.entry_graph.specs.declared.Built.TheVariants.{Nodes, Full}
use Rattle.entry_graph.specs.declared.Import.{Import}
use Rattle.entry_graph.specs.declared.Import.TheVariants.{Unresolved, SameRoot, Edge}
use Rattle.entry_graph.specs.declared.Step.{Step}
use Rattle.entry_graph.specs.declared.Step.TheVariants.{Walk, Stay, Overfull}
use Rattle.entry_graph.specs.declared.Taken.{Taken}
use Rattle.entry_graph.specs.declared.Taken.TheVariants.{UpTo, All, Overfull as Overfilled}
use Rattle.entry_graph.specs.Ordering.{Ordering, add_edge, import_record, all_records, construct}
use Rattle.entry_graph.specs.Memory.{ordering_in, Stored}

-- Module m is a node. A node before: nothing changes; else it is the last one, and has no successors.
pub record Put (m n : ℕ) (nodes₀ outs₀ nodes outs : List ℕ) (r : ℕ) : Type 0 where
  pub old : 0 < get_or outs₀ m 0 → (r ≡ n) × (nodes ≡ nodes₀) × (outs ≡ outs₀)
  pub new : get_or outs₀ m 0 ≡ 0 → (r ≡ n + 1) × (nodes ≡ set nodes₀ n m) × (outs ≡ set outs₀ m 1)

-- the rows hold this ordering; or there is no room for one of each module
pub record Holds (modules cap : ℕ) (s : Ordering) (visited nodes outs succs edges : List ℕ) (r : Built) : Type 0 where
  pub stored : (n : ℕ) → r ≡ Nodes n → Stored modules cap nodes n outs succs edges
  pub is : (n : ℕ) → r ≡ Nodes n → ordering_in modules cap visited nodes n outs succs ≡ s
  pub too_many : r ≡ Full → cap < modules

-- the import records that are walked: an external module has none
unfoldable pub records_of : Graph → ℕ → List (List ℕ)
records_of g m = elim (normal g m) [ true ↦ import_records (module_of g m) | false ↦ [] ]

-- what a record that was read asks for: nothing, a walk under the present root, or an edge
unfoldable pub import_as : (ℕ → ℕ → Ordering → Ordering) → ℕ → Import → Ordering → Ordering
import_as go root Unresolved s = s
import_as go root (SameRoot t) s = go root t.0 s
import_as go root (Edge t) s = elim (elem t.0 s.nodes) [ true ↦ add_edge root t.0 s | false ↦ go t.0 t.0 (add_edge root t.0 s) ]

-- its module is one of the graph's
pub record Bounded (modules : ℕ) (i : Import) : Type 0 where
  pub below : (t : ModuleIdx) → i ≡ SameRoot t → t.0 < modules
  pub edge_below : (t : ModuleIdx) → i ≡ Edge t → t.0 < modules

pub record Asks (modules root : ℕ) (row : List ℕ) (i : Import) : Type 0 where
  pub is : (go : ℕ → ℕ → Ordering → Ordering) (s : Ordering) → import_record go root row s ≡ import_as go root i s
  pub bounded : Bounded modules i

-- behind an edge the walk goes on, unless its end was a node before
unfoldable pub behind_edge : Built → Bool → ModuleIdx → Step
behind_edge (Nodes n) true t = Stay n
behind_edge (Nodes n) false t = Walk t t n
behind_edge Full seen t = Overfull

-- what is left of a record when its edge is added: a walk, or nothing
pub record Takes (modules cap root : ℕ) (i : Import) (nodes₀ : List ℕ) (n₀ : ℕ) (outs₀ succs₀ nodes outs succs edges : List ℕ) (r : Step) : Type 0 where
  pub walk_stored : (from t : ModuleIdx) (n : ℕ) → r ≡ Walk from t n → Stored modules cap nodes n outs succs edges
  pub walk_below : (from t : ModuleIdx) (n : ℕ) → r ≡ Walk from t n → (from.0 < modules) × (t.0 < modules)
  pub walk_is : (from t : ModuleIdx) (n : ℕ) → r ≡ Walk from t n → (go : ℕ → ℕ → Ordering → Ordering) (v : List ℕ)
      → import_as go root i (ordering_in modules cap v nodes₀ n₀ outs₀ succs₀) ≡ go from.0 t.0 (ordering_in modules cap v nodes n outs succs)
  pub stay_stored : (n : ℕ) → r ≡ Stay n → Stored modules cap nodes n outs succs edges
  pub stay_is : (n : ℕ) → r ≡ Stay n → (go : ℕ → ℕ → Ordering → Ordering) (v : List ℕ)
      → import_as go root i (ordering_in modules cap v nodes₀ n₀ outs₀ succs₀) ≡ ordering_in modules cap v nodes n outs succs
  pub too_many : r ≡ Overfull → cap < modules

-- What taking the records of module m from record k on leaves, where a walk may go `fuel` levels deep: the records from i on, and before them a walk from a
-- module that is not visited; or none (003:130-165, docs/RULES.md, Step 2).
pub record TakesRecords (g : Graph) (modules cap fuel root m k : ℕ) (visited nodes₀ : List ℕ) (n₀ : ℕ) (outs₀ succs₀ nodes outs succs edges : List ℕ) (r : Taken) : Type 0 where
  pub upto_stored : (i : ℕ) (from t : ModuleIdx) (n : ℕ) → r ≡ UpTo i from t n → Stored modules cap nodes n outs succs edges
  pub upto_below : (i : ℕ) (from t : ModuleIdx) (n : ℕ) → r ≡ UpTo i from t n → (from.0 < modules) × (t.0 < modules) × (0 < fuel) × (bit_at visited t.0 ≡ false)
  pub upto_is : (i : ℕ) (from t : ModuleIdx) (n : ℕ) → r ≡ UpTo i from t n
      → all_records (λ x y q. construct g fuel x y q) root (drop k (records_of g m)) (ordering_in modules cap visited nodes₀ n₀ outs₀ succs₀)
      ≡ all_records (λ x y q. construct g fuel x y q) root (drop i (records_of g m)) (construct g fuel from.0 t.0 (ordering_in modules cap visited nodes n outs succs))
  pub all_stored : (n : ℕ) → r ≡ All n → Stored modules cap nodes n outs succs edges
  pub all_is : (n : ℕ) → r ≡ All n
      → all_records (λ x y q. construct g fuel x y q) root (drop k (records_of g m)) (ordering_in modules cap visited nodes₀ n₀ outs₀ succs₀) ≡ ordering_in modules cap visited nodes n outs succs
  pub too_many : r ≡ Overfilled → cap < modules
