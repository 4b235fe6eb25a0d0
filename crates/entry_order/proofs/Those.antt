-- Those of a list that pass a test.
use Prim.Native.Nat.{ℕ, suc, ◌+◌}
use mathlib.Core.Path.{◌≡◌, refl, ap, ◌∙◌, sym}
use mathlib.Core.Bool.{Bool, true, false, not, ◌||◌, ◌&&◌}
use mathlib.Core.List.{List, [], ◌∷◌, ◌++◌}
use native.Mathlib.Omega.{arith}
use borrow.Author.Tests.{eqb-true}
use lib.Dec.{eqb}
use lib.ListN.{length}
use Rattle.keep_record.specs.Lines.{elem}
use Rattle.entry_order.specs.Order.{those}

module _ (test : ℕ → Bool) where
  pub those_here : (x : ℕ) (xs : List ℕ) → test x ≡ true → those test (x ∷ xs) ≡ x ∷ those test xs
  unfolding those
  those_here x xs e = rw (e, those)

  pub those_not : (x : ℕ) (xs : List ℕ) → test x ≡ false → those test (x ∷ xs) ≡ those test xs
  unfolding those
  those_not x xs e = rw (e, those)

  pub those-append : (xs ys : List ℕ) → those test (xs ++ ys) ≡ those test xs ++ those test ys
  unfolding those
  those-append [] ys = refl
  those-append (x ∷ xs) ys = go (test x) refl (those-append xs ys)
    where
      go : (b : Bool) → test x ≡ b → those test (xs ++ ys) ≡ those test xs ++ those test ys → those test (x ∷ (xs ++ ys)) ≡ those test (x ∷ xs) ++ those test ys
      go true e r = those_here x (xs ++ ys) e ∙ ap (λ l. x ∷ l) r ∙ ap (λ l. l ++ those test ys) (sym (those_here x xs e))
      go false e r = those_not x (xs ++ ys) e ∙ r ∙ ap (λ l. l ++ those test ys) (sym (those_not x xs e))

  -- who is among them
  pub elem_those : (y : ℕ) (xs : List ℕ) → elem y (those test xs) ≡ (elem y xs && test y)
  unfolding those elem
  elem_those y [] = refl
  elem_those y (x ∷ xs) = go (test x) refl (eqb y x) refl (elem_those y xs)
    where
      and_false : (a b : Bool) → b ≡ false → (a && b) ≡ false
      and_false true b e = e
      and_false false b e = refl

      go : (b : Bool) → test x ≡ b → (s : Bool) → eqb y x ≡ s → elem y (those test xs) ≡ (elem y xs && test y) → elem y (those test (x ∷ xs)) ≡ ((eqb y x || elem y xs) && test y)
      go true e true s r = let t : test y ≡ true = ap test (eqb-true y x s) ∙ e in rw (those_here x xs e, s, t)
      go true e false s r = rw (those_here x xs e, s) r
      go false e true s r = let t : test y ≡ false = ap test (eqb-true y x s) ∙ e in rw (those_not x xs e, s, t) (r ∙ and_false (elem y xs) (test y) t)
      go false e false s r = rw (those_not x xs e, s) r

  pub those_in : (y : ℕ) (xs : List ℕ) → elem y (those test xs) ≡ true → elem y xs ≡ true
  those_in y xs e = left (elem y xs) (test y) (sym (elem_those y xs) ∙ e)
    where
      left : (a b : Bool) → (a && b) ≡ true → a ≡ true
      left true b e = refl
      left false b e = e

-- a test and its opposite part a list
pub those_parts : (test : ℕ → Bool) (xs : List ℕ) → length (those test xs) + length (those (λ x. not (test x)) xs) ≡ length xs
unfolding those
those_parts test [] = refl
those_parts test (x ∷ xs) = go (test x) refl (those_parts test xs)
  where
    go : (b : Bool) → test x ≡ b → length (those test xs) + length (those (λ y. not (test y)) xs) ≡ length xs → length (those test (x ∷ xs)) + length (those (λ y. not (test y)) (x ∷ xs)) ≡ suc (length xs)
    go true e r = rw (those_here test x xs e, those_not (λ y. not (test y)) x xs (ap not e)) (omega (arith, r))
    go false e r = rw (those_not test x xs e, those_here (λ y. not (test y)) x xs (ap not e)) (omega (arith, r))
