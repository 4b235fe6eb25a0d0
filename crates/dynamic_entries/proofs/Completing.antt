-- The entries of the nodes on no cycle are written into a row, from the node that was completed last on.
use Prim.Native.Nat.{ℕ, zero, suc, ◌+◌, ◌-◌, ◌*◌, ◌<◌, ◌≤◌}
use mathlib.Core.Path.{◌≡◌, refl, ap, ◌∙◌, sym}
use mathlib.Core.Bool.{true, false}
use mathlib.Core.List.{List, [], ◌∷◌, ◌++◌}
use native.Mathlib.Omega.{arith}
use borrow.Author.Tests.{eq-eqb, ne_eqb}
use lib.Dec.{eqb}
use lib.ListN.{length, get_or, take, drop, length-append}
use Rattle.determine_side_effects.specs.graph_format_crate.declared.Header.{Header}
use Rattle.determine_side_effects.specs.graph_tables_crate.Tables.{header_in}
use Rattle.determine_side_effects.specs.graph_crate.Check.{Graph, graph_in}
use Rattle.entry_order.specs.Order.{those, module_of_entry, dynamic_entries}
use Rattle.entry_order.specs.Chains.{of_module}
use Rattle.entry_order.proofs.Filling.{Filling, fill_start, fill-same, fill-within, fill_more, fill_end, fill_done}
use Rattle.cycles.specs.Memory.{last_first}
use Rattle.dynamic_entries.specs.Sorted.{on_cycle, by_completion, completion}
use Rattle.dynamic_entries.specs.Parts.{Parted, Cycled, Completed}
use Rattle.dynamic_entries.proofs.Parting.{part_is}

module _ (g : Graph) (entries : List ℕ) (m : ℕ) (ms : List ℕ) where
  pub on_a_cycle : on_cycle g m ≡ true → by_completion g entries (m ∷ ms) ≡ by_completion g entries ms
  unfolding by_completion
  on_a_cycle e = rw (e, by_completion)

  pub on_none : on_cycle g m ≡ false → by_completion g entries (m ∷ ms) ≡ those (λ e. eqb (module_of_entry g e) m) entries ++ by_completion g entries ms
  unfolding by_completion
  on_none e = rw (e, by_completion)

last_next : (k : ℕ) (order : List ℕ) → 0 < k → last_first k order ≡ get_or order (k - 1) 0 ∷ last_first (k - 1) order
unfolding last_first
last_next zero order h = absurd (omega arith)
last_next (suc k) order h = let q : suc k - 1 ≡ k = omega arith in rw q refl

-- the state: the nodes that were completed as the first k are left
pub record Completes (g : Graph) (n : ℕ) (order list₀ : List ℕ) (found k total : ℕ) (list : List ℕ) : Type 0 where
  pub within : k ≤ found
  pub fill : Filling n (by_completion g (dynamic_entries g) (completion g)) list₀ total (by_completion g (dynamic_entries g) (last_first k order)) list

module _ (numbers plan : List ℕ) (users : ℕ) (order : List ℕ) (found : ℕ) (p : Parted (graph_in numbers) plan users × Cycled (graph_in numbers) plan × Completed (graph_in numbers) order found)
    (n : ℕ) (list₀ : List ℕ) where
  abbrev g : Graph
  g = graph_in numbers

  abbrev D : List ℕ
  D = dynamic_entries g

  abbrev whole : List ℕ
  whole = by_completion g D (completion g)

  pub completes_start : n + length (by_completion (graph_in numbers) (dynamic_entries (graph_in numbers)) (completion (graph_in numbers))) ≤ length list₀ → Completes (graph_in numbers) n order list₀ found found n list₀
  completes_start r =
      record { within = omega arith; fill = fill-same n whole list₀ n whole list₀ (fill_start n whole list₀ r) _ (ap (λ ms. by_completion g D ms) (sym p.2.nodes)) }

  module _ (k total : ℕ) (list : List ℕ) (s : Completes (graph_in numbers) n order list₀ found k total list) where
    pub completes-done : k ≤ 0 → (total ≡ n + length (by_completion (graph_in numbers) (dynamic_entries (graph_in numbers)) (completion (graph_in numbers))))
        × (list ≡ take n list₀ ++ (by_completion (graph_in numbers) (dynamic_entries (graph_in numbers)) (completion (graph_in numbers)) ++ drop total list₀))
    unfolding last_first by_completion
    completes-done z =
        let q : k ≡ 0 = omega arith in
        let none : by_completion g D (last_first k order) ≡ [] = rw (q, last_first, by_completion) in
        (fill_end n whole list₀ total _ list s.fill none, fill_done n whole list₀ total _ list s.fill none)

    module _ (h : Header) (is : h ≡ header_in numbers) (more : 0 < k) where
      abbrev m : ℕ
      m = get_or order (k - 1) 0

      -- the node in hand is one of the row, and below the modules; its word
      pub node-place : (k - 1 < length order) × (get_or order (k - 1) 0 < (header_in numbers).modules) × (2 * h.entries + h.modules + get_or order (k - 1) 0 < length plan)
      unfolding graph_in
      node-place =
          let w = s.within in
          let l = p.2.long in
          let b = p.2.below (k - 1) (omega (arith, w, more)) in
          let a = p.1.long in
          (omega (arith, w, l, more), b, rw is (omega (arith, a, b)))

      told : on_cycle (graph_in numbers) (get_or order (k - 1) 0) ≡ eqb (get_or plan (2 * h.entries + h.modules + get_or order (k - 1) 0) 0) 1
      unfolding graph_in
      told = rw is (sym (p.1.cycles (get_or order (k - 1) 0) node-place.1))

      next : last_first k order ≡ get_or order (k - 1) 0 ∷ last_first (k - 1) order
      next = last_next k order more

      pub pass-cycled : (get_or plan (2 * h.entries + h.modules + get_or order (k - 1) 0) 0 ≡ 1) → Completes (graph_in numbers) n order list₀ found (k - 1) total list
      pass-cycled e =
          let w = s.within in
          let q : by_completion g D (last_first k order) ≡ by_completion g D (last_first (k - 1) order) =
          ap (λ ms. by_completion g D ms) next ∙ on_a_cycle g D m _ (told ∙ eq-eqb (get_or plan (2 * h.entries + h.modules + get_or order (k - 1) 0) 0) 1 e) in
          record { within = omega (arith, w); fill = fill-same n whole list₀ total _ list s.fill _ q }

      module _ (e : get_or plan (2 * h.entries + h.modules + get_or order (k - 1) 0) 0 ≡ 1 → ⊥) where
        its : those (λ x. eqb (module_of_entry (graph_in numbers) x) (get_or order (k - 1) 0)) (dynamic_entries (graph_in numbers)) ≡ of_module (graph_in numbers) (drop users plan) (h.entries - users) (get_or order (k - 1) 0)
        unfolding graph_in of_module
        its = rw is (ap (λ es. those (λ x. eqb (module_of_entry g x) m) es) (sym (part_is g plan users p.0)))

        left : by_completion g D (last_first k order) ≡ of_module g (drop users plan) (h.entries - users) m ++ by_completion g D (last_first (k - 1) order)
        left =
            ap (λ ms. by_completion g D ms) next
            ∙ on_none g D m _ (told ∙ ne_eqb (get_or plan (2 * h.entries + h.modules + get_or order (k - 1) 0) 0) 1 e)
            ∙ ap (λ es. es ++ by_completion g D (last_first (k - 1) order)) its

        pub node-room : total + length (of_module (graph_in numbers) (drop users plan) (h.entries - users) (get_or order (k - 1) 0)) ≤ length list
        node-room =
            let w = fill-within n whole list₀ total _ list s.fill in
            let l = ap length left ∙ length-append (of_module g (drop users plan) (h.entries - users) m) (by_completion g D (last_first (k - 1) order)) in
            omega (arith, w, l)

        pub take-node : (r : ℕ) (out : List ℕ) → (r ≡ total + length (of_module (graph_in numbers) (drop users plan) (h.entries - users) (get_or order (k - 1) 0)))
            × (out ≡ take total list ++ (of_module (graph_in numbers) (drop users plan) (h.entries - users) (get_or order (k - 1) 0) ++ drop r list))
            → Completes (graph_in numbers) n order list₀ found (k - 1) r out
        take-node r out o =
            let w = s.within in
            record { within = omega (arith, w); fill = fill_more n whole list₀ total _ list s.fill (of_module g (drop users plan) (h.entries - users) m) (by_completion g D (last_first (k - 1) order)) out r left o.0 o.1 }
