-- What the search over the ordering graph in memory tells of the graph's dynamic entries.
use Prim.Native.Nat.{ℕ, zero, suc, ◌+◌, ◌-◌, ◌*◌, ◌<◌, ◌≤◌}
use mathlib.Core.Path.{◌≡◌, refl, ap, ◌∙◌, sym, subst}
use mathlib.Core.Bool.{Bool, true, false, not}
use mathlib.Core.List.{List, ◌∷◌}
use native.Mathlib.Decide.{ℕ_discrete}
use native.Mathlib.Omega.{arith}
use borrow.Author.Tests.{eq-eqb, ne_eqb, ltb-true, lt-ltb, le-ltb}
use lib.Dec.{eqb, ltb}
use lib.ListN.{length, get_or, take}
use lib.Seq.{ext_get_or, length-take-le, get_or-take}
use Rattle.determine_side_effects.specs.graph_format_crate.declared.Header.{Header}
use Rattle.determine_side_effects.specs.graph_tables_crate.Tables.{header_in}
use Rattle.determine_side_effects.specs.graph_crate.Check.{Graph, graph_in}
use Rattle.determine_side_effects.specs.graph_access_crate.Words.{tabulate}
use Rattle.keep_record.specs.Lines.{elem}
use Rattle.keep_record.specs.Held.{Distinct}
use Rattle.keep_record.proofs.Counting.{elem_place}
use Rattle.entry_order.specs.Order.{dynamic_entries}
use Rattle.entry_order.specs.Plan.{cycled_at, plan_size, Untouched}
use Rattle.entry_graph.specs.Ordering.{entry_graph}
use Rattle.entry_graph.specs.Memory.{row_of, succs_in, Stored}
use Rattle.cycles.specs.Search.{finished}
use Rattle.cycles.specs.Cycles.{Edge, cycled}
use Rattle.cycles.specs.Memory.{last_first, Found}
use Rattle.cycles.proofs.Members.{in_none, in_head, in_tail}
use Rattle.cycles.proofs.Strong.{finished_roots, finished_distinct}
use Rattle.dynamic_entries.specs.Sorted.{on_cycle, completion, sorted_entries}
use Rattle.dynamic_entries.specs.Tries.{Unlived}
use Rattle.dynamic_entries.specs.Parts.{Cleared, Parted, Cycled, Outside, Completed, Holds}
use Rattle.dynamic_entries.proofs.Lengths.{sorted_length}

-- ---- nodes and edges of the graph in memory

module _ (modules cap : ℕ) (nodes : List ℕ) (n : ℕ) (outs succs edges : List ℕ) (s : Stored modules cap nodes n outs succs edges) where
  nodes_below : (x : ℕ) → elem x (take n nodes) ≡ true → x < modules
  nodes_below x e =
      let p = elem_place x (take n nodes) e in
      let a = s.nodes_few in
      let b = s.nodes_long in
      let l = length-take-le n nodes (omega (arith, a, b)) in
      let h : p.0 < n = omega (arith, l, p.1) in
      let q : x ≡ get_or nodes p.0 0 = p.2 ∙ get_or-take n nodes p.0 0 h in
      rw q (s.node_below p.0 h)

  -- a node with a successor has a word above 1
  row_of_node : (u v : ℕ) → elem v (row_of cap outs succs u) ≡ true → 0 < get_or outs u 0
  unfolding row_of tabulate
  row_of_node u v e = go (ℕ_discrete (get_or outs u 0 - 1) 0)
    where
      go : Dec (get_or outs u 0 - 1 ≡ 0) → 0 < get_or outs u 0
      go (yes q) = absurd (in_none v (rw (q, tabulate) at e))
      go (no q) = omega (arith, q)

  edge_ends : (u v : ℕ) → Edge (succs_in modules cap outs succs) u v → (elem u (take n nodes) ≡ true) × (elem v (take n nodes) ≡ true)
  unfolding succs_in
  edge_ends u v e = go (ltb u modules) refl
    where
      go : (b : Bool) → ltb u modules ≡ b → (elem u (take n nodes) ≡ true) × (elem v (take n nodes) ≡ true)
      go true l =
          let h = ltb-true u modules l in
          let r : elem v (row_of cap outs succs u) ≡ true = rw (l, succs_in) at e in
          (s.is_node u h ∙ lt-ltb 0 (get_or outs u 0) (row_of_node u v r), s.succ_nodes u v h r)
      go false l = absurd (in_none v (rw (l, succs_in) at e))

-- ---- the words of a row, the last first

last_in : (k c : ℕ) (order : List ℕ) → k < c → elem (get_or order k 0) (last_first c order) ≡ true
unfolding last_first
last_in k zero order h = absurd (omega arith)
last_in k (suc c) order h = go (ℕ_discrete k c) (λ l. last_in k c order l)
  where
    go : Dec (k ≡ c) → (k < c → elem (get_or order k 0) (last_first c order) ≡ true) → elem (get_or order k 0) (get_or order c 0 ∷ last_first c order) ≡ true
    go (yes q) _ = rw q (in_head (get_or order c 0) (last_first c order))
    go (no q) r = in_tail (get_or order k 0) (get_or order c 0) (last_first c order) (r (omega (arith, h, q)))

-- ---- the graph in memory is the ordering graph

module _ (g : Graph) (cap : ℕ) (nodes : List ℕ) (n : ℕ) (outs succs edges : List ℕ) (m : Holds g cap nodes n outs succs edges) where
  abbrev M : ℕ
  M = g.header.modules

  abbrev S : ℕ → List ℕ
  S = succs_in M cap outs succs

  succs_same : S ≡ (entry_graph g).succs
  succs_same = λ i u. m.succs_are u i

  below : (x : ℕ) → elem x (take n nodes) ≡ true → x < M
  below = nodes_below M cap nodes n outs succs edges m.stored

  ends : (u v : ℕ) → Edge S u v → (elem u (take n nodes) ≡ true) × (elem v (take n nodes) ≡ true)
  ends = edge_ends M cap nodes n outs succs edges m.stored

  completion_is : finished S M (take n nodes) ≡ completion g
  unfolding completion
  completion_is = ap (λ f. finished f M (take n nodes)) succs_same ∙ ap (λ r. finished (entry_graph g).succs M r) m.nodes_are

  cycled_is : (x : ℕ) → elem x (cycled S M (take n nodes)) ≡ on_cycle g x
  unfolding on_cycle
  cycled_is x = ap (λ f. elem x (cycled f M (take n nodes))) succs_same ∙ ap (λ r. elem x (cycled (entry_graph g).succs M r)) m.nodes_are

  pub holds_outside : Outside g outs
  holds_outside =
      record {
        long = m.stored.outs_long;
        outside = λ u h. go u (ℕ_discrete (get_or outs u 0) 0) (sym (ap (λ r. elem u r) m.nodes_are) ∙ m.stored.is_node u h);
      }
    where
      go : (u : ℕ) → Dec (get_or outs u 0 ≡ 0) → elem u (entry_graph g).nodes ≡ ltb 0 (get_or outs u 0) → eqb (get_or outs u 0) 0 ≡ not (elem u (entry_graph g).nodes)
      go u (yes q) e = eq-eqb (get_or outs u 0) 0 q ∙ ap not (sym (e ∙ le-ltb 0 (get_or outs u 0) (omega (arith, q))))
      go u (no q) e = ne_eqb (get_or outs u 0) 0 q ∙ ap not (sym (e ∙ lt-ltb 0 (get_or outs u 0) (omega (arith, q))))

  -- each dynamic entry is sorted once
  pub holds_length : length (sorted_entries g) ≡ length (dynamic_entries g)
  holds_length =
      sorted_length g (subst (λ (xs : List ℕ). Distinct xs) completion_is (finished_distinct S M (take n nodes) below ends))
      (λ x. ap (λ r. elem x r) (sym completion_is) ∙ finished_roots S M (take n nodes) below ends x ∙ ap (λ r. elem x r) m.nodes_are)

  -- ---- and the search is its search

  module _ (plan₀ order plan : List ℕ) (found : ℕ) (f : Found S M (take n nodes) (cycled_at g.header) plan₀ order plan found) where
    pub found-completed : M ≤ length order → Completed g order found
    found-completed l =
        let c = f.count_few in
        record {
          long = omega (arith, c, l);
          below = λ k h. below (get_or order k 0) (sym (finished_roots S M (take n nodes) below ends (get_or order k 0)) ∙ ap (λ r. elem (get_or order k 0) r) (sym f.completed) ∙ last_in k found order h);
          nodes = f.completed ∙ completion_is;
        }

    module _ (c : Cleared g plan₀) where
      pub found-cycled : Cycled g plan
      found-cycled =
          let l = f.others.same_length in
          let a = c.long in
          let b = c.few in
          record { long = omega (arith, l, a); few = omega (arith, l, b); cycles = λ x h. f.cycles x h ∙ cycled_is x }

      module _ (users : ℕ) (p : Parted g plan₀ users) where
        kept : (i : ℕ) → i < g.header.entries → get_or plan i 0 ≡ get_or plan₀ i 0
        kept i h = f.others.same i (λ a b. omega (arith, a, h))

        E : ℕ
        E = g.header.entries

        pub found-parted : Parted g plan users
        unfolding E
        found-parted =
            let l = f.others.same_length in
            let e = p.are_entries.long in
            let a = length-take-le E plan (omega (arith, l, e)) in
            let b = length-take-le E plan₀ e in
            let q : take E plan ≡ take E plan₀ = ext_get_or 0 (take E plan) (take E plan₀) (a ∙ sym b) (λ i h. let k : i < E = omega (arith, h, a) in get_or-take E plan i 0 k ∙ kept i k ∙ sym (get_or-take E plan₀ i 0 k)) in
            record {
              users_are = p.users_are;
              inside = p.inside;
              order = q ∙ p.order;
              are_entries = record { long = omega (arith, l, e); below = λ i h. rw (kept i h) (p.are_entries.below i h) };
            }

        -- no word between the entries and the cycles is set
        pub found-unlived : (after : List ℕ) → Untouched users g.header.entries plan after → Unlived g after
        found-unlived after u =
            record { unlived = λ i h k. u.same i (λ a b. omega (arith, h, b)) ∙ f.others.same i (λ a b. omega (arith, a, k)) ∙ c.clear i h }

-- ---- the same of a graph in memory, whose header h was read

module _ (numbers : List ℕ) (h : Header) (is : h ≡ header_in numbers) (plan₀ : List ℕ) (users cap : ℕ) (nodes : List ℕ) (n : ℕ) (outs succs edges : List ℕ)
    (p : Parted (graph_in numbers) plan₀ users × Cleared (graph_in numbers) plan₀ × Holds (graph_in numbers) cap nodes n outs succs edges) where
  pub search_fits : plan_size h < 18446744073709551616
  unfolding graph_in
  search_fits = let l = p.1.long in let f = p.1.few in rw is (omega (arith, l, f))

  pub search_ready : (order : List ℕ) → (header_in numbers).modules ≤ length order → Stored h.modules cap nodes n outs succs edges
      × ((h.modules ≤ length order) × (2 * h.entries + h.modules + h.modules ≤ length plan₀) × (length plan₀ < 4294967296) × ((m : ℕ) → m < h.modules → get_or plan₀ (2 * h.entries + h.modules + m) 0 ≡ 0))
  unfolding graph_in
  search_ready order l =
      let a = p.1.long in
      rw is (p.2.stored, (l, omega (arith, a), p.1.few, λ m k. p.1.clear (2 * (header_in numbers).entries + (header_in numbers).modules + m) (omega arith)))

  module _ (order plan : List ℕ) (found : ℕ) (f : Found (succs_in h.modules cap outs succs) h.modules (take n nodes) (2 * h.entries + h.modules) plan₀ order plan found) where
    found_in : Found (succs_in (graph_in numbers).header.modules cap outs succs) (graph_in numbers).header.modules (take n nodes) (cycled_at (graph_in numbers).header) plan₀ order plan found
    unfolding graph_in
    found_in = rw is at f

    pub search-done : (header_in numbers).modules ≤ length order → Parted (graph_in numbers) plan users × Cycled (graph_in numbers) plan × Outside (graph_in numbers) outs × Completed (graph_in numbers) order found
    unfolding graph_in
    search-done l =
        let g = graph_in numbers in (
          found-parted g cap nodes n outs succs edges p.2 plan₀ order plan found found_in p.1 users p.0,
          found-cycled g cap nodes n outs succs edges p.2 plan₀ order plan found found_in p.1,
          holds_outside g cap nodes n outs succs edges p.2,
          found-completed g cap nodes n outs succs edges p.2 plan₀ order plan found found_in l,
        )

    pub search-unlived : (after : List ℕ) → Untouched users (header_in numbers).entries plan after → Unlived (graph_in numbers) after
    unfolding graph_in
    search-unlived after u = found-unlived (graph_in numbers) cap nodes n outs succs edges p.2 plan₀ order plan found found_in p.1 users p.0 after u
