-- What the two lists made of the components say: the members of those of more than one, and the number of one that has a single node.
use Prim.Native.Nat.{ℕ, zero, suc, ◌+◌, ◌<◌, ◌≤◌}
use mathlib.Core.Path.{◌≡◌, refl, sym, ◌∙◌}
use mathlib.Core.Logic.{◌⊎◌, inl, inr, ⊎_elim}
use mathlib.Core.Bool.{Bool, true, false}
use mathlib.Core.List.{List, [], ◌∷◌}
use native.Mathlib.Omega.{arith}
use borrow.Author.Tests.{eqb-true, eqb-false, ltb-true, ltb-false, lt-ltb}
use lib.Dec.{eqb, ltb}
use lib.ListN.{length, get_or}
use Rattle.rust_values.specs.Values.{In}
use Rattle.rust_values.specs.Values.Found.{none, found}
use Rattle.rust_values.proofs.Members.{in_append, in_append_left, in_append_right}
use Rattle.rust_order.specs.DynamicEntries.{component, cycled_dynamic_entries, order_from}

-- ---- a list of one

pub first_in : (xs : List ℕ) (m : ℕ) → 0 < length xs → get_or xs 0 0 ≡ m → In m xs
first_in [] m h e = absurd (omega arith)
first_in (x ∷ xs) m h e = inl (sym e)

pub in_first : (xs : List ℕ) (m : ℕ) → length xs ≤ 1 → In m xs → get_or xs 0 0 ≡ m
in_first [] m h i = absurd i
in_first (x ∷ []) m h (inl e) = sym e
in_first (x ∷ []) m h (inr i) = absurd i
in_first (x ∷ y ∷ xs) m h i = absurd (omega (arith, h))

pub both_in : (xs : List ℕ) (m n : ℕ) → length xs ≤ 1 → In m xs → In n xs → m ≡ n
both_in xs m n h i j = sym (in_first xs m h i) ∙ in_first xs n h j

-- ---- the members of those of more than one

pub record Several (sccs : List (List ℕ)) (m : ℕ) : Type 0 where
  pub number : ℕ
  pub below : number < length sccs
  pub several : 1 < length (component sccs number)
  pub listed : In m (component sccs number)

pub cycled_several : (sccs : List (List ℕ)) (m : ℕ) → In m (cycled_dynamic_entries sccs) → Several sccs m
unfolding cycled_dynamic_entries
cycled_several [] m i = absurd i
cycled_several (c ∷ sccs) m i = go (ltb 1 (length c)) refl (cycled_several sccs m)
  where
    later : Several sccs m → Several (c ∷ sccs) m
    later s = record { number = suc s.number; below = omega (arith, s.below); several = s.several; listed = s.listed }

    go : (b : Bool) → ltb 1 (length c) ≡ b → (In m (cycled_dynamic_entries sccs) → Several sccs m) → Several (c ∷ sccs) m
    go true e r =
        ⊎_elim (λ j. record { number = 0; below = omega arith; several = ltb-true 1 (length c) e; listed = j }) (λ j. later (r j))
        (in_append m c (cycled_dynamic_entries sccs) (rw (e, cycled_dynamic_entries) at i))
    go false e r = later (r (rw (e, cycled_dynamic_entries) at i))

pub several_cycled : (sccs : List (List ℕ)) (m k : ℕ) → k < length sccs → 1 < length (component sccs k) → In m (component sccs k) → In m (cycled_dynamic_entries sccs)
unfolding cycled_dynamic_entries
several_cycled [] m k h s i = absurd (omega arith)
several_cycled (c ∷ sccs) m zero h s i = rw (lt-ltb 1 (length c) s, cycled_dynamic_entries) (in_append_left m c (cycled_dynamic_entries sccs) i)
several_cycled (c ∷ sccs) m (suc k) h s i = go (ltb 1 (length c)) refl (several_cycled sccs m k (omega (arith, h)) s i)
  where
    go : (b : Bool) → ltb 1 (length c) ≡ b → In m (cycled_dynamic_entries sccs) → In m (cycled_dynamic_entries (c ∷ sccs))
    go true e r = rw (e, cycled_dynamic_entries) (in_append_right m c (cycled_dynamic_entries sccs) r)
    go false e r = rw (e, cycled_dynamic_entries) r

-- ---- the number of one that has a single node

pub record Single (k : ℕ) (sccs : List (List ℕ)) (m j : ℕ) : Type 0 where
  pub number : ℕ
  pub is : j ≡ k + number
  pub below : number < length sccs
  pub alone : length (component sccs number) ≤ 1
  pub first : get_or (component sccs number) 0 0 ≡ m

pub found_single : (k : ℕ) (sccs : List (List ℕ)) (m j : ℕ) → order_from k sccs m ≡ found j → Single k sccs m j
unfolding order_from
found_single k [] m j e = let z : ◌≡◌ {A = ℕ} 0 1 = cc in absurd (omega arith)
found_single k (c ∷ sccs) m j e = go (ltb 1 (length c)) refl (eqb (get_or c 0 0) m) refl (found_single (k + 1) sccs m j)
  where
    later : Single (k + 1) sccs m j → Single k (c ∷ sccs) m j
    later s = record { number = suc s.number; is = omega (arith, s.is); below = omega (arith, s.below); alone = s.alone; first = s.first }

    go : (a : Bool) → ltb 1 (length c) ≡ a → (b : Bool) → eqb (get_or c 0 0) m ≡ b
        → (order_from (k + 1) sccs m ≡ found j → Single (k + 1) sccs m j) → Single k (c ∷ sccs) m j
    go true p b q r = later (r (rw (p, order_from) at e))
    go false p true q r =
        let f : found k ≡ found j = rw (p, q, order_from) at e in
        let s : k ≡ j = cc in
        record { number = 0; is = omega (arith, s); below = omega arith; alone = ltb-false 1 (length c) p; first = eqb-true (get_or c 0 0) m q }
    go false p false q r = later (r (rw (p, q, order_from) at e))

pub none_single : (k : ℕ) (sccs : List (List ℕ)) (m : ℕ) → order_from k sccs m ≡ none
    → (i : ℕ) → i < length sccs → length (component sccs i) ≤ 1 → get_or (component sccs i) 0 0 ≡ m → ⊥
unfolding order_from
none_single k [] m e i h l f = omega arith
none_single k (c ∷ sccs) m e i h l f = go (ltb 1 (length c)) refl (eqb (get_or c 0 0) m) refl (none_single (k + 1) sccs m) i h l f
  where
    go : (a : Bool) → ltb 1 (length c) ≡ a → (b : Bool) → eqb (get_or c 0 0) m ≡ b
        → (order_from (k + 1) sccs m ≡ none → (i : ℕ) → i < length sccs → length (component sccs i) ≤ 1 → get_or (component sccs i) 0 0 ≡ m → ⊥)
        → (i : ℕ) → i < length (c ∷ sccs) → length (component (c ∷ sccs) i) ≤ 1 → get_or (component (c ∷ sccs) i) 0 0 ≡ m → ⊥
    go true p b q r zero h l f = let s = ltb-true 1 (length c) p in omega (arith, s, l)
    go true p b q r (suc i) h l f = r (rw (p, order_from) at e) i (omega (arith, h)) l f
    go false p true q r i h l f = let z : found k ≡ none = rw (p, q, order_from) at e in let y : ◌≡◌ {A = ℕ} 0 1 = cc in omega arith
    go false p false q r zero h l f = eqb-false (get_or c 0 0) m q f
    go false p false q r (suc i) h l f = r (rw (p, q, order_from) at e) i (omega (arith, h)) l f
