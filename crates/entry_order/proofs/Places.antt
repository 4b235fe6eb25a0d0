-- Places of a list by the module of their entries.
use Prim.Native.Nat.{ℕ, zero, suc, ◌+◌, ◌-◌, ◌<◌, ◌≤◌}
use mathlib.Core.Path.{◌≡◌, refl, ap, ◌∙◌, sym}
use mathlib.Core.Bool.{Bool, true, false, not, ◌||◌}
use mathlib.Core.List.{List, [], ◌∷◌}
use native.Mathlib.Numerals.{add-one}
use native.Mathlib.Omega.{arith}
use borrow.Author.Tests.{eqb-true, eqb-false, eq-eqb, ne_eqb}
use lib.Dec.{eqb}
use lib.ListN.{length, get_or, take, drop, drop_of_length-le}
use lib.Seq.{drop-cons, get_or-take, length-take-le}
use Rattle.facts.specs.graph_crate.Check.{Graph}
use Rattle.facts.specs.graph_access_crate.Words.{tabulate}
use Rattle.keep_record.specs.Lines.{elem}
use Rattle.entry_order.specs.Order.{those, module_of_entry}
use Rattle.entry_order.specs.Chains.{place_of, of_module}
use Rattle.entry_order.proofs.Those.{those_here, those_not}

-- the first numbers of a list, one by one
module _ (list : List ℕ) (count : ℕ) (long : count ≤ length list) (i : ℕ) where
  pub first_next : i < count → drop i (take count list) ≡ get_or list i 0 ∷ drop (i + 1) (take count list)
  first_next h =
      let l = length-take-le count list long in
      let q : i < length (take count list) = omega (arith, l, h) in
      rw (add-one i) (drop-cons (take count list) i 0 q ∙ ap (λ x. x ∷ drop (suc i) (take count list)) (get_or-take count list i 0 h))

  pub first_none : count ≤ i → drop i (take count list) ≡ []
  first_none h = let l = length-take-le count list long in let q : length (take count list) ≤ i = omega (arith, l, h) in drop_of_length-le (take count list) q

-- the modules of k places from place i on
unfoldable pub keys : Graph → List ℕ → ℕ → ℕ → List ℕ
keys g list i k = tabulate (λ j. module_of_entry g (get_or list j 0)) i k

module _ (g : Graph) (list : List ℕ) (u : ℕ) where
  abbrev of : ℕ → Bool
  of e = eqb (module_of_entry g e) u

  pub place_here : (i k : ℕ) → module_of_entry g (get_or list i 0) ≡ u → place_of g list u i (suc k) ≡ i + 1
  unfolding place_of
  place_here i k e = rw (eq-eqb (module_of_entry g (get_or list i 0)) u e, place_of)

  pub place_later : (i k : ℕ) → (module_of_entry g (get_or list i 0) ≡ u → ⊥) → place_of g list u i (suc k) ≡ place_of g list u (i + 1) k
  unfolding place_of
  place_later i k e = rw (ne_eqb (module_of_entry g (get_or list i 0)) u e, place_of)

  -- a place is one of those looked at, and its entry is of the module
  pub record Place (i k p : ℕ) : Type 0 where
    pub below : p ≤ i + k
    pub its : 0 < p → module_of_entry g (get_or list (p - 1) 0) ≡ u

  pub place_is : (i k : ℕ) → Place i k (place_of g list u i k)
  unfolding place_of
  place_is i zero = record { below = omega arith; its = λ h. absurd (omega arith) }
  place_is i (suc k) = go (of (get_or list i 0)) refl (place_is (i + 1) k)
    where
      go : (b : Bool) → of (get_or list i 0) ≡ b → Place (i + 1) k (place_of g list u (i + 1) k) → Place i (suc k) (place_of g list u i (suc k))
      go true e r =
          let m = eqb-true (module_of_entry g (get_or list i 0)) u e in
          let q : i + 1 - 1 ≡ i = omega arith in
          rw (place_here i k m) (record { below = omega arith; its = λ _. ap (λ (j : ℕ). module_of_entry g (get_or list j 0)) q ∙ m })
      go false e r = let b = r.below in rw (place_later i k (eqb-false (module_of_entry g (get_or list i 0)) u e)) (record { below = omega (arith, b); its = r.its })

  -- the entries of the module from a place on, counted from 1; none from place 0
  unfoldable pub left_at : ℕ → ℕ → List ℕ
  left_at count zero = []
  left_at count (suc p) = those (λ e. eqb (module_of_entry g e) u) (drop p (take count list))

  pub left_none : (count at : ℕ) → at ≤ 0 → left_at count at ≡ []
  unfolding left_at
  left_none count at h = let q : at ≡ 0 = omega arith in rw (q, left_at)

  module _ (count : ℕ) (long : count ≤ length list) where
    left-place : (k i : ℕ) → i + k ≡ count → those (λ e. eqb (module_of_entry g e) u) (drop i (take count list)) ≡ left_at count (place_of g list u i k)
    unfolding left_at place_of those
    left-place zero i h = ap (λ l. those of l) (first_none list count long i (omega arith))
    left-place (suc k) i h = go (of (get_or list i 0)) refl (left-place k (i + 1) (omega arith))
      where
        next : drop i (take count list) ≡ get_or list i 0 ∷ drop (i + 1) (take count list)
        next = first_next list count long i (omega arith)

        go : (b : Bool) → of (get_or list i 0) ≡ b → those of (drop (i + 1) (take count list)) ≡ left_at count (place_of g list u (i + 1) k) → those of (drop i (take count list)) ≡ left_at count (place_of g list u i (suc k))
        go true e _ = rw (place_here i k (eqb-true (module_of_entry g (get_or list i 0)) u e), add-one i, left_at)
        go false e r =
            ap (λ l. those of l) next
            ∙ those_not of (get_or list i 0) (drop (i + 1) (take count list)) e
            ∙ r
            ∙ ap (λ (p : ℕ). left_at count p) (sym (place_later i k (eqb-false (module_of_entry g (get_or list i 0)) u e)))

    -- all of them, from the module's first place on
    pub left_all : left_at count (place_of g list u 0 count) ≡ of_module g list count u
    unfolding of_module
    left_all = sym (left-place count 0 (omega arith))

    -- one, and those from the next place on
    pub left_next : (at : ℕ) → 0 < at → at ≤ count → module_of_entry g (get_or list (at - 1) 0) ≡ u
        → left_at count at ≡ get_or list (at - 1) 0 ∷ left_at count (place_of g list u at (count - at))
    unfolding left_at
    left_next at h l e =
        let q : at ≡ suc (at - 1) = omega arith in
        let q₁ : at - 1 + 1 ≡ at = omega arith in
        ap (λ (p : ℕ). left_at count p) q
        ∙ ap (λ m. those of m) (first_next list count long (at - 1) (omega arith))
        ∙ those_here of (get_or list (at - 1) 0) (drop (at - 1 + 1) (take count list)) (eq-eqb (module_of_entry g (get_or list (at - 1) 0)) u e)
        ∙ ap (λ (p : ℕ). get_or list (at - 1) 0 ∷ those of (drop p (take count list))) q₁
        ∙ ap (λ m. get_or list (at - 1) 0 ∷ m) (left-place (count - at) at (omega arith))

  -- a module's first place is one before which it is not met
  pub place_first : (k i m : ℕ) → k < m → module_of_entry g (get_or list (i + k) 0) ≡ u → eqb (place_of g list u i m) (i + k + 1) ≡ not (elem u (keys g list i k))
  unfolding keys tabulate elem
  place_first k i zero h e = absurd (omega arith)
  place_first zero i (suc m) h e =
      let q : i + 0 ≡ i = omega arith in
      ap (λ (p : ℕ). eqb p (i + 0 + 1)) (place_here i m (rw q at e)) ∙ eq-eqb (i + 1) (i + 0 + 1) (omega arith)
  place_first (suc k) i (suc m) h e =
      let q : i + suc k ≡ i + 1 + k = omega arith in
      go (of (get_or list i 0)) refl (rw (← q) at (place_first k (i + 1) m (omega arith) (rw q at e)))
    where
      go : (b : Bool) → eqb (module_of_entry g (get_or list i 0)) u ≡ b → eqb (place_of g list u (i + 1) m) (i + suc k + 1) ≡ not (elem u (keys g list (i + 1) k))
          → eqb (place_of g list u i (suc m)) (i + suc k + 1) ≡ not (eqb u (module_of_entry g (get_or list i 0)) || elem u (keys g list (i + 1) k))
      go true x _ =
          let y = eqb-true (module_of_entry g (get_or list i 0)) u x in
          rw (place_here i m y, eq-eqb u (module_of_entry g (get_or list i 0)) (sym y)) (ne_eqb (i + 1) (i + suc k + 1) (omega arith))
      go false x r =
          let n = eqb-false (module_of_entry g (get_or list i 0)) u x in
          rw (place_later i m n, ne_eqb u (module_of_entry g (get_or list i 0)) (λ y. n (sym y))) r
