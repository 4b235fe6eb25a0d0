-- A list grouped by key.
use Prim.Native.Nat.{ℕ, suc, ◌+◌}
use mathlib.Core.Path.{◌≡◌, refl, ap, ◌∙◌, sym}
use mathlib.Core.Bool.{Bool, true, false, not, ◌||◌, ◌&&◌}
use mathlib.Core.List.{List, [], ◌∷◌, ◌++◌}
use native.Mathlib.Omega.{arith}
use borrow.Author.Tests.{eqb-true}
use lib.Dec.{eqb}
use lib.ListN.{length, length-append}
use Rattle.keep_record.specs.Lines.{elem}
use Rattle.keep_record.proofs.Adding.{elem-append}
use Rattle.entry_order.specs.Order.{those, grouped_from, grouped}
use Rattle.entry_order.proofs.Those.{those_here, those_not, elem_those}

module _ (key : ℕ → ℕ) where
  -- those with the key k, and those whose key is not among `before`
  abbrev keyed : ℕ → ℕ → Bool
  keyed k y = eqb (key y) k

  abbrev new : List ℕ → ℕ → Bool
  new before y = not (elem (key y) before)

  pub group_old : (before : List ℕ) (x : ℕ) (xs : List ℕ) → elem (key x) before ≡ true → grouped_from key before (x ∷ xs) ≡ grouped_from key before xs
  unfolding grouped_from
  group_old before x xs e = rw (e, grouped_from)

  pub group_new : (before : List ℕ) (x : ℕ) (xs : List ℕ) → elem (key x) before ≡ false → grouped_from key before (x ∷ xs) ≡ (x ∷ those (λ y. eqb (key y) (key x)) xs) ++ grouped_from key (key x ∷ before) xs
  unfolding grouped_from
  group_new before x xs e = rw (e, grouped_from)

  -- it matters only which keys there were before
  pub group_same : (a b : List ℕ) (xs : List ℕ) → ((k : ℕ) → elem k a ≡ elem k b) → grouped_from key a xs ≡ grouped_from key b xs
  unfolding grouped_from elem
  group_same a b [] h = refl
  group_same a b (x ∷ xs) h = go (elem (key x) a) refl (group_same a b xs h) (group_same (key x ∷ a) (key x ∷ b) xs (λ k. ap (λ t. eqb k (key x) || t) (h k)))
    where
      go : (t : Bool) → elem (key x) a ≡ t → grouped_from key a xs ≡ grouped_from key b xs → grouped_from key (key x ∷ a) xs ≡ grouped_from key (key x ∷ b) xs → grouped_from key a (x ∷ xs) ≡ grouped_from key b (x ∷ xs)
      go true e r _ = group_old a x xs e ∙ r ∙ sym (group_old b x xs (sym (h (key x)) ∙ e))
      go false e _ r = group_new a x xs e ∙ ap (λ l. (x ∷ those (λ y. eqb (key y) (key x)) xs) ++ l) r ∙ sym (group_new b x xs (sym (h (key x)) ∙ e))

  -- a new key parts those with new keys
  parted : (before : List ℕ) (k : ℕ) (xs : List ℕ) → elem k before ≡ false → length (those (keyed k) xs) + length (those (new (k ∷ before)) xs) ≡ length (those (new before) xs)
  unfolding those elem
  parted before k [] n = refl
  parted before k (x ∷ xs) n = go (eqb (key x) k) refl (elem (key x) before) refl (parted before k xs n)
    where
      go : (s : Bool) → eqb (key x) k ≡ s → (t : Bool) → elem (key x) before ≡ t → length (those (keyed k) xs) + length (those (new (k ∷ before)) xs) ≡ length (those (new before) xs)
          → length (those (keyed k) (x ∷ xs)) + length (those (new (k ∷ before)) (x ∷ xs)) ≡ length (those (new before) (x ∷ xs))
      go true s t e r =
          let o : elem (key x) before ≡ false = ap (λ j. elem j before) (eqb-true (key x) k s) ∙ n in
          rw (those_here (keyed k) x xs s, those_not (new (k ∷ before)) x xs (ap (λ b. not (b || elem (key x) before)) s), those_here (new before) x xs (ap not o)) (omega (arith, r))
      go false s true e r =
          rw (those_not (keyed k) x xs s, those_not (new (k ∷ before)) x xs (ap (λ b. not (b || elem (key x) before)) s ∙ ap not e), those_not (new before) x xs (ap not e)) (omega (arith, r))
      go false s false e r =
          rw (those_not (keyed k) x xs s, those_here (new (k ∷ before)) x xs (ap (λ b. not (b || elem (key x) before)) s ∙ ap not e), those_here (new before) x xs (ap not e)) (omega (arith, r))

  length_from : (before xs : List ℕ) → length (grouped_from key before xs) ≡ length (those (new before) xs)
  unfolding grouped_from those
  length_from before [] = refl
  length_from before (x ∷ xs) = go (elem (key x) before) refl (length_from before xs) (length_from (key x ∷ before) xs)
    where
      go : (t : Bool) → elem (key x) before ≡ t → length (grouped_from key before xs) ≡ length (those (new before) xs) → length (grouped_from key (key x ∷ before) xs) ≡ length (those (new (key x ∷ before)) xs)
          → length (grouped_from key before (x ∷ xs)) ≡ length (those (new before) (x ∷ xs))
      go true e r _ = rw (group_old before x xs e, those_not (new before) x xs (ap not e)) r
      go false e _ r =
          let a = length-append (those (keyed (key x)) xs) (grouped_from key (key x ∷ before) xs) in
          let p = parted before (key x) xs e in
          rw (group_new before x xs e, those_here (new before) x xs (ap not e)) (omega (arith, a, r, p))

  all_new : (xs : List ℕ) → length (those (new []) xs) ≡ length xs
  unfolding elem those
  all_new [] = refl
  all_new (x ∷ xs) = ap suc (all_new xs)

  -- as many as before
  pub grouped-length : (xs : List ℕ) → length (grouped key xs) ≡ length xs
  unfolding grouped
  grouped-length xs = length_from [] xs ∙ all_new xs

  elem_from : (y : ℕ) (before xs : List ℕ) → elem y (grouped_from key before xs) ≡ (elem y xs && new before y)
  unfolding grouped_from elem
  elem_from y before [] = refl
  elem_from y before (x ∷ xs) = go (elem (key x) before) refl (eqb y x) refl (elem_from y before xs) (elem_from y (key x ∷ before) xs)
    where
      and_false : (a b : Bool) → b ≡ false → (a && b) ≡ false
      and_false true b e = e
      and_false false b e = refl

      mix : (a k b : Bool) → (k ≡ true → b ≡ false) → ((a && k) || (a && not (k || b))) ≡ (a && not b)
      mix true true b h = sym (ap not (h refl))
      mix true false b h = refl
      mix false k b h = refl

      go : (t : Bool) → elem (key x) before ≡ t → (s : Bool) → eqb y x ≡ s
          → elem y (grouped_from key before xs) ≡ (elem y xs && new before y) → elem y (grouped_from key (key x ∷ before) xs) ≡ (elem y xs && new (key x ∷ before) y)
          → elem y (grouped_from key before (x ∷ xs)) ≡ ((eqb y x || elem y xs) && new before y)
      go true e true s r _ =
          let n : new before y ≡ false = ap (λ j. not (elem (key j) before)) (eqb-true y x s) ∙ ap not e in
          rw (group_old before x xs e, s) (r ∙ and_false (elem y xs) (new before y) n ∙ sym n)
      go true e false s r _ = rw (group_old before x xs e, s) r
      go false e true s _ _ =
          let n : new before y ≡ true = ap (λ j. not (elem (key j) before)) (eqb-true y x s) ∙ ap not e in
          rw (group_new before x xs e, s) (sym n)
      go false e false s _ r =
          rw (group_new before x xs e, s)
          (elem-append y (those (keyed (key x)) xs) (grouped_from key (key x ∷ before) xs)
          ∙ ap (λ b. b || elem y (grouped_from key (key x ∷ before) xs)) (elem_those (keyed (key x)) y xs)
          ∙ ap (λ b. (elem y xs && keyed (key x) y) || b) r
          ∙ mix (elem y xs) (keyed (key x) y) (elem (key y) before) (λ q. ap (λ j. elem j before) (eqb-true (key y) (key x) q) ∙ e))

  -- the same numbers
  pub elem_grouped : (y : ℕ) (xs : List ℕ) → elem y (grouped key xs) ≡ elem y xs
  unfolding grouped elem
  elem_grouped y xs = elem_from y [] xs ∙ and_true (elem y xs)
    where
      and_true : (a : Bool) → (a && true) ≡ a
      and_true true = refl
      and_true false = refl

  pub grouped_in : (y : ℕ) (xs : List ℕ) → elem y (grouped key xs) ≡ true → elem y xs ≡ true
  grouped_in y xs e = sym (elem_grouped y xs) ∙ e
