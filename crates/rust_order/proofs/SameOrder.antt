-- The Rust's order of the dynamic entries and its cycles are ours, for accepted numbers.
use Prim.Native.Nat.{ℕ}
use mathlib.Core.Path.{◌≡◌, refl, ap, ◌∙◌, sym, subst}
use mathlib.Core.Logic.{◌⊎◌, inl, inr}
use mathlib.Core.Bool.{true, false, not}
use mathlib.Core.List.{List}
use borrow.Author.Tests.{lt-ltb, not-true, not-false}
use Rattle.graph_access.specs.graph_crate.Check.{Graph, graph_in, check_of, answer_of}
use Rattle.graph_access.specs.graph_crate.Loaded.{Loaded}
use Rattle.keep_record.specs.Lines.{elem}
use Rattle.keep_record.specs.Held.{Distinct}
use Rattle.keep_record.proofs.Adding.{left_false, right_false}
use Rattle.entry_order.specs.Order.{module_of_entry, dynamic_entries}
use Rattle.entry_graph.specs.Ordering.{entry_graph}
use Rattle.entry_graph.proofs.Made.{Made, entry_graph_made}
use Rattle.entry_graph.proofs.Successors.{or_cases}
use Rattle.cycles.specs.Cycles.{OnCycle}
use Rattle.cycles.proofs.Members.{never_both, same_test}
use Rattle.cycles.proofs.Strong.{finished_roots, finished_distinct}
use Rattle.dynamic_entries.specs.Sorted.{completion, on_cycle, goes_first, sorted_entries}
use Rattle.closed_choices.proofs.Accepting.{accepted_tabled}
use Rattle.run_choices.proofs.OnCycles.{on_cycle_is}
use Rattle.rust_values.specs.Values.{Found}
use Rattle.rust_values.specs.Values.Found.{none, found}
use Rattle.rust_values.proofs.Members.{in_elem}
use Rattle.rust_order.specs.DynamicEntries.{entry_idx, TarjanScc, cycled_dynamic_entries, order_from, is_less, sort_by_key, SortDynamicEntriesByTopologicalOrder}
use Rattle.rust_order.proofs.Entries.{Agrees, graph_is}
use Rattle.rust_order.proofs.Completing.{completed_is}
use Rattle.rust_order.proofs.Earlier.{Earlier, earlier_in, earlier_first}
use Rattle.rust_order.proofs.Components.{cycled_on, on_cycled, order_none, order_found, order_falls}
use Rattle.rust_order.proofs.Sorting.{rises, sort-is}
use Rattle.std.specs.Prelude.{Ok}

-- the components of our ordering graph
module _ {numbers tables : List ℕ} (t : Loaded numbers tables) (sccs : List (List ℕ))
    (s : TarjanScc (entry_graph (graph_in numbers)).succs (entry_graph (graph_in numbers)).nodes sccs) where
  abbrev g : Graph
  g = graph_in numbers

  abbrev M : ℕ
  M = (graph_in numbers).header.modules

  abbrev succs : ℕ → List ℕ
  succs = (entry_graph (graph_in numbers)).succs

  abbrev nodes : List ℕ
  nodes = (entry_graph (graph_in numbers)).nodes

  made : Made M (entry_graph g)
  made = entry_graph_made t

  -- ---- cycles

  pub cycles_are : (m : ℕ) → elem m (cycled_dynamic_entries sccs) ≡ on_cycle (graph_in numbers) m
  cycles_are m =
      same_test (elem m (cycled_dynamic_entries sccs)) (on_cycle g m)
      (λ e. (on_cycle_is t m).1 (cycled_on s made.ends m e)) (λ e. on_cycled s made.ends m ((on_cycle_is t m).0 e))

  -- ---- the order of completion

  completion_is : completion g ≡ s.end.completed
  unfolding completion
  completion_is = completed_is succs M nodes made.below (λ u v l e. made.below v (made.ends u v e).1) s.walked

  completion_apart : Distinct (completion g)
  unfolding completion
  completion_apart = finished_distinct succs M nodes made.below made.ends

  completion_nodes : (m : ℕ) → elem m (completion g) ≡ elem m nodes
  unfolding completion
  completion_nodes m = finished_roots succs M nodes made.below made.ends m

  -- ---- the keys

  abbrev order : ℕ → Found
  order = order_from 0 sccs

  not_on : (m : ℕ) → on_cycle g m ≡ false → OnCycle succs m → ⊥
  not_on m e c = never_both ((on_cycle_is t m).1 c) e

  firsts : (m : ℕ) → goes_first g m ≡ true → order m ≡ none
  unfolding goes_first
  firsts m e = order_none s made.ends m (to (or_cases (on_cycle g m) (not (elem m nodes)) e))
    where
      to : (on_cycle g m ≡ true) ⊎ (not (elem m nodes) ≡ true) → OnCycle succs m ⊎ (elem m nodes ≡ false)
      to (inl c) = inl ((on_cycle_is t m).0 c)
      to (inr o) = inr (not-true (elem m nodes) o)

  inside : (m : ℕ) → goes_first g m ≡ false → (on_cycle g m ≡ false) × (elem m (completion g) ≡ true)
  unfolding goes_first
  inside m e =
      (left_false (on_cycle g m) (not (elem m nodes)) e, completion_nodes m ∙ not-false (elem m nodes) (right_false (on_cycle g m) (not (elem m nodes)) e))

  others : (m : ℕ) → goes_first g m ≡ false → (j : ℕ) × (order m ≡ found j)
  others m e = let p = inside m e in order_found s made.ends m (not_on m p.0) (sym (completion_nodes m) ∙ p.1)

  outside : (m : ℕ) → goes_first g m ≡ true → elem m (completion g) ≡ true → on_cycle g m ≡ false → ⊥
  unfolding goes_first
  outside m e i c = let n : elem m nodes ≡ true = sym (completion_nodes m) ∙ i in never_both e (rw (c, n) refl)

  up : (m n : ℕ) → Earlier m n (completion g) → on_cycle g m ≡ false → on_cycle g n ≡ false → is_less (order m) (order n) ≡ true
  unfolding is_less
  up m n h c d =
      let p = order_found s made.ends m (not_on m c) (sym (completion_nodes m) ∙ in_elem m (completion g) (earlier_first m n (completion g) h)) in
      let q = order_found s made.ends n (not_on n d) (sym (completion_nodes n) ∙ in_elem n (completion g) (earlier_in m n (completion g) h)) in
      let l = order_falls s made.ends m n p.0 q.0 (subst (λ (xs : List ℕ). Distinct xs) completion_is completion_apart)
      p.1 q.1 (subst (λ (xs : List ℕ). Earlier m n xs) completion_is h) in
      rw (p.1, q.1) (lt-ltb q.0 p.0 l)

  pub sorted_is : sort_by_key (λ e. order_from 0 sccs (entry_idx (graph_in numbers) e)) (dynamic_entries (graph_in numbers)) ≡ sorted_entries (graph_in numbers)
  unfolding sorted_entries entry_idx module_of_entry
  sorted_is = sort-is g order (goes_first g) (completion g) completion_apart (rises g order (completion g) up) firsts others outside inside (dynamic_entries g)

-- The theorem.
pub rust_order : (numbers : List ℕ) → answer_of (check_of numbers) ≡ Ok tt → (sorted cycled : List ℕ)
    → SortDynamicEntriesByTopologicalOrder (graph_in numbers) (dynamic_entries (graph_in numbers)) sorted cycled
    → (sorted ≡ sorted_entries (graph_in numbers)) × ((m : ℕ) → elem m cycled ≡ on_cycle (graph_in numbers) m)
rust_order numbers accepted sorted cycled r =
    (r.sorted_are ∙ sorted_is loaded r.sccs ours, λ m. ap (λ (xs : List ℕ). elem m xs) r.cycled_are ∙ cycles_are loaded r.sccs ours m)
  where
    loaded : Loaded numbers (accepted_tabled numbers accepted).tables
    loaded = (accepted_tabled numbers accepted).holds

    same : Agrees (entry_graph (graph_in numbers)) r.graph
    same = (graph_is loaded r.constructed).0

    ours : TarjanScc (entry_graph (graph_in numbers)).succs (entry_graph (graph_in numbers)).nodes r.sccs
    ours = rw (same.succs_are, same.nodes_are) r.components
