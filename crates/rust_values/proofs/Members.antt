-- Members of a list: by `elem` and by `In`, of a joined list, at a place.
use Prim.Native.Nat.{ℕ, zero, suc, ◌<◌}
use mathlib.Core.Path.{◌≡◌, refl, sym}
use mathlib.Core.Logic.{◌⊎◌, inl, inr}
use mathlib.Core.Bool.{Bool, true, false, ◌||◌, false≢true}
use mathlib.Core.List.{List, [], ◌∷◌, ◌++◌}
use native.Mathlib.Omega.{arith}
use lib.Dec.{eqb}
use lib.ListN.{length, get_or}
use borrow.Author.Tests.{eqb-true, eq-eqb}
use Rattle.keep_record.specs.Lines.{elem}
use Rattle.rust_values.specs.Values.{In}

pub elem_in : (x : ℕ) (xs : List ℕ) → elem x xs ≡ true → In x xs
unfolding elem
elem_in x [] e = absurd (false≢true e)
elem_in x (y ∷ ys) e = go (eqb x y) refl (λ h. elem_in x ys h)
  where
    go : (b : Bool) → eqb x y ≡ b → (elem x ys ≡ true → In x ys) → (x ≡ y) ⊎ In x ys
    go true q r = inl (eqb-true x y q)
    go false q r = inr (r (rw (q) at e))

pub in_elem : (x : ℕ) (xs : List ℕ) → In x xs → elem x xs ≡ true
unfolding elem
in_elem x [] h = absurd h
in_elem x (y ∷ ys) (inl e) = rw (eq-eqb x y e) refl
in_elem x (y ∷ ys) (inr h) = go (eqb x y) (in_elem x ys h)
  where
    go : (b : Bool) → elem x ys ≡ true → (b || elem x ys) ≡ true
    go true q = refl
    go false q = q

pub in_append_left : {A : Type 0} (x : A) (xs ys : List A) → In x xs → In x (xs ++ ys)
in_append_left x [] ys h = absurd h
in_append_left x (y ∷ xs) ys (inl e) = inl e
in_append_left x (y ∷ xs) ys (inr h) = inr (in_append_left x xs ys h)

pub in_append_right : {A : Type 0} (x : A) (xs ys : List A) → In x ys → In x (xs ++ ys)
in_append_right x [] ys h = h
in_append_right x (y ∷ xs) ys h = inr (in_append_right x xs ys h)

pub in_append : {A : Type 0} (x : A) (xs ys : List A) → In x (xs ++ ys) → In x xs ⊎ In x ys
in_append x [] ys h = inr h
in_append x (y ∷ xs) ys (inl e) = inl (inl e)
in_append x (y ∷ xs) ys (inr h) = go (in_append x xs ys h)
  where
    go : In x xs ⊎ In x ys → In x (y ∷ xs) ⊎ In x ys
    go (inl a) = inl (inr a)
    go (inr b) = inr b

pub in_at : {A : Type 0} (xs : List A) (d : A) (k : ℕ) → k < length xs → In (get_or xs k d) xs
in_at [] d k h = absurd (omega (arith, h))
in_at (x ∷ xs) d zero h = inl refl
in_at (x ∷ xs) d (suc k) h = inr (in_at xs d k (omega (arith, h)))

pub record At {A : Type 0} (x : A) (xs : List A) (d : A) : Type 0 where
  pub place : ℕ
  pub inside : place < length xs
  pub is : get_or xs place d ≡ x

pub at_in : {A : Type 0} (x : A) (xs : List A) (d : A) → In x xs → At x xs d
at_in x [] d h = absurd h
at_in x (y ∷ ys) d (inl e) = record { place = 0; inside = omega arith; is = sym e }
at_in x (y ∷ ys) d (inr h) = let r = at_in x ys d h in record { place = suc r.place; inside = omega (arith, r.inside); is = r.is }
