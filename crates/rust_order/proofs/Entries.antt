-- The graph that the Rust builds from the dynamic entries is our ordering graph.
use Prim.Native.Nat.{ℕ, ◌<◌}
use mathlib.Core.Path.{◌≡◌, refl, ap, ◌∙◌}
use mathlib.Core.Bool.{true, false}
use mathlib.Core.List.{List, []}
use Rattle.graph_access.specs.graph_crate.Check.{Graph, graph_in}
use Rattle.graph_access.specs.graph_crate.Loaded.{Loaded}
use Rattle.graph_access.specs.Names.{import_records}
use Rattle.graph_access.specs.Words.{module_of}
use Rattle.graph_access.proofs.Indexes.{entry_module_below}
use Rattle.keep_record.specs.Lines.{elem}
use Rattle.entry_order.specs.Order.{module_of_entry, dynamic_entries}
use Rattle.entry_graph.specs.Ordering.{Ordering, nothing, no_edges, no_ordering, from_entry, from_entries, entry_graph}
use Rattle.entry_graph.specs.Ordering as ours
use Rattle.entry_graph.proofs.Keeping.{Targets}
use Rattle.entry_graph.proofs.Deep.{loaded_targets}
use Rattle.entry_graph.proofs.Made.{dynamic_below}
use Rattle.cycles.proofs.Members.{in_head, in_tail}
use Rattle.rust_values.specs.Values.{filter}
use Rattle.rust_order.specs.DynamicEntries.{entry_idx, DiGraphMap, no_graph, neighbors, Walking, Constructs, FromEntries}
use Rattle.rust_order.specs.DynamicEntries.Call.{construct}
use Rattle.rust_order.specs.DynamicEntries.FromEntries.{no_more, one}
use Rattle.rust_order.proofs.Edges.{ordering_of, Ends, none_ends}
use Rattle.rust_order.proofs.Walking.{constructs_ends, left_few, does}

-- a graph, with nothing visited
abbrev pub begin : DiGraphMap → Walking
begin d = record { graph = d; visited = [] }

-- ours holds the Rust's graph
pub record Agrees (s : Ordering) (d : DiGraphMap) : Type 0 where
  pub nodes_are : s.nodes ≡ d.nodes
  pub succs_are : s.succs ≡ neighbors d

agrees_walked : (w : Walking) → Agrees (ordering_of w) w.graph
unfolding ordering_of
agrees_walked w = record { nodes_are = refl; succs_are = refl }

pub idx_is : (g : Graph) (e : ℕ) → entry_idx g e ≡ module_of_entry g e
unfolding entry_idx module_of_entry
idx_is g e = refl

module _ (g : Graph) (inside : (m : ℕ) → m < g.header.modules → Targets (λ u. u < g.header.modules) (import_records (module_of g m))) where
  begun : (s : Ordering) (d : DiGraphMap) → Agrees s d → ◌≡◌ {A = Ordering} (record { visited = nothing; nodes = s.nodes; succs = s.succs }) (ordering_of (begin d))
  unfolding ordering_of nothing elem
  begun s d a = λ i. record { visited = λ m. false; nodes = a.nodes_are i; succs = a.succs_are i }

  entry_does : (m : ℕ) (s : Ordering) (d : DiGraphMap) (w : Walking) → m < g.header.modules → Agrees s d → Ends d → Constructs g (construct m m) (begin d) w
      → from_entry g m s ≡ ordering_of w
  unfolding from_entry
  entry_does m s d w h a i p =
      ap (λ (x : Ordering). ours.construct g g.header.modules m m x) (begun s d a)
      ∙ does g g.header.modules inside p i g.header.modules h (left_few g g.header.modules inside (begin d))

  pub entries_do : {es : List ℕ} (s : Ordering) {d z : DiGraphMap} → FromEntries g es d z
      → ((e : ℕ) → elem e es ≡ true → module_of_entry g e < g.header.modules) → Agrees s d → Ends d
      → Agrees (from_entries g es s) z × Ends z
  unfolding from_entries entry_idx module_of_entry
  entries_do s (no_more d) b a h = (a, h)
  entries_do s (one e es' d z w p r) b a h =
      let l = b e (in_head e es') in
      let q = entry_does (module_of_entry g e) s d w l a h p in
      rw q (entries_do (ordering_of w) r (λ x i. b x (in_tail x e es' i)) (agrees_walked w) (constructs_ends p h))

-- of a loaded graph
module _ {numbers tables : List ℕ} (t : Loaded numbers tables) where
  pub entry_below : (e : ℕ) → elem e (dynamic_entries (graph_in numbers)) ≡ true → module_of_entry (graph_in numbers) e < (graph_in numbers).header.modules
  unfolding graph_in module_of_entry
  entry_below e i = entry_module_below t e (dynamic_below (graph_in numbers) e i)

  pub graph_is : {d : DiGraphMap} → FromEntries (graph_in numbers) (dynamic_entries (graph_in numbers)) no_graph d → Agrees (entry_graph (graph_in numbers)) d × Ends d
  unfolding entry_graph no_edges neighbors filter
  graph_is p = entries_do (graph_in numbers) (loaded_targets t) no_ordering p entry_below (record { nodes_are = refl; succs_are = refl }) none_ends
