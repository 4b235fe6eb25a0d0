-- The entries of one module are written along the chain.
use Prim.Native.Nat.{ℕ, ◌+◌, ◌-◌, ◌<◌, ◌≤◌}
use mathlib.Core.Path.{◌≡◌, ap, ◌∙◌, sym}
use mathlib.Core.List.{List, ◌∷◌, ◌++◌}
use native.Mathlib.Omega.{arith}
use lib.ListN.{length, get_or, take, drop, set}
use Rattle.facts.specs.graph_format_crate.declared.Header.{Header}
use Rattle.facts.specs.graph_tables_crate.Tables.{header_in}
use Rattle.facts.specs.graph_crate.Check.{Graph, graph_in}
use Rattle.entry_order.specs.Chains.{place_of, Chained, Entries, of_module}
use Rattle.entry_order.proofs.Places.{Place, place_is, left_at, left_none, left_all, left_next}
use Rattle.entry_order.proofs.Filling.{Filling, fill_start, fill-same, fill-room, fill_step, fill_end, fill_done}

-- the state: the next place, counted from 1, and what has been written
pub record Along (g : Graph) (list : List ℕ) (count u n : ℕ) (out₀ : List ℕ) (at k : ℕ) (out : List ℕ) : Type 0 where
  pub place : Place g list u 0 count at
  pub fill : Filling n (of_module g list count u) out₀ k (left_at g list u count at) out

module _ (numbers : List ℕ) (h : Header) (is : h ≡ header_in numbers) (list chain : List ℕ) (count u : ℕ)
    (c : Chained (graph_in numbers) list count chain) (e : Entries (graph_in numbers) list count) (lu : u < (header_in numbers).modules) (n : ℕ) (out₀ : List ℕ) where
  abbrev g : Graph
  g = graph_in numbers

  pub first_fits : u < length chain
  unfolding graph_in
  first_fits = let l = c.long in omega (arith, l, lu)

  first : get_or chain u 0 ≡ place_of (graph_in numbers) list u 0 count
  unfolding graph_in
  first = c.firsts u lu

  pub along_start : n + length (of_module (graph_in numbers) list count u) ≤ length out₀ → Along (graph_in numbers) list count u n out₀ (get_or chain u 0) n out₀
  along_start r =
      rw first
      (record {
        place = place_is g list u 0 count;
        fill = fill-same n (of_module g list count u) out₀ n (of_module g list count u) out₀ (fill_start n (of_module g list count u) out₀ r) _ (sym (left_all g list u count e.long));
      })

  module _ (at k : ℕ) (out : List ℕ) (s : Along (graph_in numbers) list count u n out₀ at k out) where
    abbrev left : List ℕ
    left = left_at g list u count at

    abbrev whole : List ℕ
    whole = of_module g list count u

    pub along_done : at ≤ 0 → (k ≡ n + length (of_module (graph_in numbers) list count u)) × (out ≡ take n out₀ ++ (of_module (graph_in numbers) list count u ++ drop k out₀))
    along_done z =
        let none = left_none g list u count at z in
        (fill_end n whole out₀ k left out s.fill none, fill_done n whole out₀ k left out s.fill none)

    module _ (more : 0 < at) where
      inside : at ≤ count
      inside = let b = s.place.below in omega (arith, b)

      next : left_at g list u count at ≡ get_or list (at - 1) 0 ∷ left_at g list u count (place_of g list u at (count - at))
      next = left_next g list u count e.long at more inside (s.place.its more)

      -- the place is one of the list, its entry is one, and there is room for it
      pub along-place : (at - 1 < length list) × (get_or list (at - 1) 0 < (header_in numbers).entries) × (h.modules + at ≤ length chain) × (k < length out)
      unfolding graph_in
      along-place =
          let l = e.long in
          let i = inside in
          let lc = c.long in
          (omega (arith, l, i), e.below (at - 1) (omega (arith, i)), rw is (omega (arith, lc, i)), fill-room n whole out₀ k left out s.fill _ _ next)

      later : get_or chain (h.modules + at - 1) 0 ≡ place_of (graph_in numbers) list u at (count - at)
      unfolding graph_in
      later =
          let i = inside in
          let p : (header_in numbers).modules + at - 1 ≡ (header_in numbers).modules + (at - 1) = omega (arith, more) in
          let q : at - 1 + 1 ≡ at = omega (arith, more) in
          rw is
          (ap (λ (j : ℕ). get_or chain j 0) p
          ∙ c.nexts (at - 1) (omega (arith, i, more))
          ∙ ap (λ (v : ℕ). place_of g list v (at - 1 + 1) (count - (at - 1 + 1))) (s.place.its more)
          ∙ ap (λ (j : ℕ). place_of g list u j (count - j)) q)

      pub along_step : (x : ℕ) → x ≡ get_or list (at - 1) 0 → Along (graph_in numbers) list count u n out₀ (get_or chain (h.modules + at - 1) 0) (k + 1) (set out k x)
      along_step x w =
          let b = place_is g list u at (count - at) in
          let bb = b.below in
          let i = inside in
          rw (later, w)
          (record {
            place = record { below = omega (arith, bb, i); its = b.its };
            fill = fill_step n whole out₀ k left out s.fill _ _ next;
          })

      pub along-less : length (left_at (graph_in numbers) list u count (get_or chain (h.modules + at - 1) 0)) < length (left_at (graph_in numbers) list u count at)
      along-less = let l = ap length next in rw later (omega (arith, l))
