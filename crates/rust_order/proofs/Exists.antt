-- The Rust's order exists for accepted numbers: what `rust_order` speaks of is never empty.
use Prim.Native.Nat.{ℕ, ◌<◌}
use mathlib.Core.Path.{◌≡◌, refl, ap, ◌∙◌, sym, subst}
use mathlib.Core.Logic.{inr}
use mathlib.Core.Bool.{true}
use mathlib.Core.List.{List}
use Rattle.graph_access.specs.graph_crate.Check.{graph_in, check_of, answer_of}
use Rattle.graph_access.specs.graph_crate.Loaded.{Loaded}
use Rattle.keep_record.specs.Lines.{elem}
use Rattle.entry_order.specs.Order.{dynamic_entries}
use Rattle.entry_graph.specs.Ordering.{entry_graph}
use Rattle.entry_graph.proofs.Made.{Made, entry_graph_made}
use Rattle.cycles.specs.Search.{none}
use Rattle.cycles.specs.Cycles.{Edge, preds}
use Rattle.cycles.proofs.Members.{never_both, none_lacks}
use Rattle.cycles.proofs.Paths.{edge_back, edge_forth}
use Rattle.cycles.proofs.Ranks.{Ranked, sound, sound_start}
use Rattle.cycles.proofs.Strong.{finished_roots}
use Rattle.dynamic_entries.specs.Sorted.{sorted_entries}
use Rattle.closed_choices.proofs.Accepting.{accepted_tabled}
use Rattle.rust_values.specs.Values.{In}
use Rattle.rust_values.proofs.Members.{elem_in, in_elem}
use Rattle.rust_order.specs.DynamicEntries.{entry_idx, DiGraphMap, no_graph, neighbors, FromEntries, Entered, unentered, DepthFirst, TarjanScc, cycled_dynamic_entries, order_from, sort_by_key, SortDynamicEntriesByTopologicalOrder}
use Rattle.rust_order.proofs.Entries.{Agrees, graph_is}
use Rattle.rust_order.proofs.Completing.{search_of, walked_walks, completed_is}
use Rattle.rust_order.proofs.Earlier.{earlier_before}
use Rattle.rust_order.proofs.Components.{path_reaches, reaches_path}
use Rattle.rust_order.proofs.Derivations.{graph_exists, depth_first_exists}
use Rattle.rust_order.proofs.Parts.{Placed, Parts, parts}
use Rattle.rust_order.proofs.SameOrder.{rust_order}
use Rattle.std.specs.Prelude.{Ok}

-- nodes below n, and all edges between nodes
module _ (succs : ℕ → List ℕ) (n : ℕ) (nodes : List ℕ) (below : (x : ℕ) → elem x nodes ≡ true → x < n)
    (ends : (u v : ℕ) → Edge succs u v → (elem u nodes ≡ true) × (elem v nodes ≡ true)) where
  pub components_exist : (sccs : List (List ℕ)) × TarjanScc succs nodes sccs
  unfolding search_of
  components_exist = (
    all.groups,
    record {
      place = λ m h. (put m h).number;
      inside = λ m h. (put m h).below;
      covers = λ m h. (put m h).listed;
      of_nodes = λ i m h k. elem_in m nodes (all.of_nodes i m h k).0;
      not_empty = all.not_empty;
      apart = all.apart;
      connected = λ i m k h a b. reaches_path (all.connected i m k h a b);
      maximal = λ i j m k h l a b to fro. all.maximal i j m k h l a b (path_reaches to) (path_reaches fro);
      end = end;
      walked = walked;
      last = all.last;
      last_of = all.last_of;
      numbered = λ i j m h l k. earlier_before (all.last j) m end.completed (all.numbered i j m h l k);
    },
  )
    where
      bounded : (u v : ℕ) → u < n → Edge succs u v → v < n
      bounded u v l e = below v (ends u v e).1

      end : Entered
      end = (depth_first_exists succs n bounded nodes below).0

      walked : DepthFirst succs nodes unentered end
      walked = (depth_first_exists succs n bounded nodes below).1

      members : (x : ℕ) → elem x end.completed ≡ elem x nodes
      members x = ap (λ (xs : List ℕ). elem x xs) (sym (completed_is succs n nodes below bounded walked)) ∙ finished_roots succs n nodes below ends x

      ranked : Ranked succs end.completed
      ranked = (sound succs (walked_walks walked) (sound_start succs (search_of unentered).seen)).ranked

      all : Parts succs (λ x. elem x nodes ≡ true) end.completed none
      all =
          parts succs (preds succs n) n (λ x. elem x nodes ≡ true) below ends (λ u v e. edge_back succs n u v (below u (ends u v e).0) e)
          (edge_forth succs n) end.completed none
          (λ x i. sym (members x) ∙ i) (λ x i. inr (members x ∙ i)) (λ x y i e. absurd (never_both i (none_lacks x))) ranked

      put : (m : ℕ) → In m nodes → Placed all.groups m
      put m h = all.placed m (in_elem m nodes h) (none_lacks m)

-- of a loaded graph, for some list of the modules on cycles
order_exists : {numbers tables : List ℕ} → Loaded numbers tables
    → (sorted : List ℕ) × (cycled : List ℕ) × SortDynamicEntriesByTopologicalOrder (graph_in numbers) (dynamic_entries (graph_in numbers)) sorted cycled
order_exists {numbers} t = (
  sort_by_key (λ e. order_from 0 scc.0 (entry_idx (graph_in numbers) e)) (dynamic_entries (graph_in numbers)),
  cycled_dynamic_entries scc.0,
  record { graph = d; sccs = scc.0; constructed = built; components = theirs; cycled_are = refl; sorted_are = refl },
)
  where
    d : DiGraphMap
    d = (graph_exists t).0

    built : FromEntries (graph_in numbers) (dynamic_entries (graph_in numbers)) no_graph d
    built = (graph_exists t).1

    same : Agrees (entry_graph (graph_in numbers)) d
    same = (graph_is t built).0

    made : Made (graph_in numbers).header.modules (entry_graph (graph_in numbers))
    made = entry_graph_made t

    scc : (sccs : List (List ℕ)) × TarjanScc (entry_graph (graph_in numbers)).succs (entry_graph (graph_in numbers)).nodes sccs
    scc = components_exist (entry_graph (graph_in numbers)).succs (graph_in numbers).header.modules (entry_graph (graph_in numbers)).nodes made.below made.ends

    theirs : TarjanScc (neighbors d) d.nodes scc.0
    theirs = rw (sym same.succs_are, sym same.nodes_are) scc.1

-- The sorted entries are an order that the Rust can come to.
pub rust_order_exists : (numbers : List ℕ) → answer_of (check_of numbers) ≡ Ok tt
    → (cycled : List ℕ) × SortDynamicEntriesByTopologicalOrder (graph_in numbers) (dynamic_entries (graph_in numbers)) (sorted_entries (graph_in numbers)) cycled
rust_order_exists numbers accepted =
    let r = order_exists (accepted_tabled numbers accepted).holds in
    let e = (rust_order numbers accepted r.0 r.1 r.2).0 in
    (r.1, subst (λ (xs : List ℕ). SortDynamicEntriesByTopologicalOrder (graph_in numbers) (dynamic_entries (graph_in numbers)) xs r.1) e r.2)
