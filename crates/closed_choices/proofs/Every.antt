-- A property of every line of a list.
use Prim.Native.Nat.{ℕ, zero, suc, ◌+◌, ◌<◌, ◌≤◌}
use mathlib.Core.Path.{◌≡◌, subst}
use mathlib.Core.Bool.{Bool, true, false}
use mathlib.Core.List.{List, [], ◌∷◌, ◌++◌, map}
use native.Mathlib.Omega.{arith}
use lib.ListN.{length, get_or, take, drop}
use Rattle.determine_side_effects.specs.graph_access_crate.Words.{tabulate}

module _ {A : Type 0} (P : A → Type 0) where
  abbrev pub Every : List A → Type 0
  Every [] = Unit {0}
  Every (x ∷ xs) = P x × Every xs

  pub every_append : (xs ys : List A) → Every xs → Every ys → Every (xs ++ ys)
  every_append [] ys a b = b
  every_append (x ∷ xs) ys a b = (a.0, every_append xs ys a.1 b)

  pub every_left : (xs ys : List A) → Every (xs ++ ys) → Every xs
  every_left [] ys a = tt
  every_left (x ∷ xs) ys a = (a.0, every_left xs ys a.1)

  pub every_right : (xs ys : List A) → Every (xs ++ ys) → Every ys
  every_right [] ys a = a
  every_right (x ∷ xs) ys a = every_right xs ys a.1

  pub every_at : (xs : List A) (d : A) → Every xs → (k : ℕ) → k < length xs → P (get_or xs k d)
  every_at [] d a k h = absurd (omega arith)
  every_at (x ∷ xs) d a zero h = a.0
  every_at (x ∷ xs) d a (suc k) h = every_at xs d a.1 k (omega arith)

  pub every_by : (xs : List A) (d : A) → ((k : ℕ) → k < length xs → P (get_or xs k d)) → Every xs
  every_by [] d h = tt
  every_by (x ∷ xs) d h = (h 0 (omega arith), every_by xs d (λ k u. h (suc k) (omega (arith, u))))

  pub every_if : (b : Bool) (xs ys : List A) → Every xs → Every ys → Every (elim b [ true ↦ xs | false ↦ ys ])
  every_if true xs ys a c = a
  every_if false xs ys a c = c

  pub every_tabulate : (f : ℕ → A) (i n : ℕ) → ((k : ℕ) → i ≤ k → k < i + n → P (f k)) → Every (tabulate f i n)
  unfolding tabulate
  every_tabulate f i zero h = tt
  every_tabulate f i (suc n) h = (h i (omega arith) (omega arith), every_tabulate f (i + 1) n (λ k l u. h k (omega (arith, l)) (omega (arith, u))))

  pub tabulate_every : (f : ℕ → A) (i n : ℕ) → Every (tabulate f i n) → (k : ℕ) → k < n → P (f (i + k))
  unfolding tabulate
  tabulate_every f i zero a k h = absurd (omega arith)
  tabulate_every f i (suc n) a zero h = subst (λ j. P (f j)) (same i) a.0
    where
      same : (i : ℕ) → i ≡ i + 0
      same i = omega arith
  tabulate_every f i (suc n) a (suc k) h = subst (λ j. P (f j)) (shift i k) (tabulate_every f (i + 1) n a.1 k (omega arith))
    where
      shift : (i k : ℕ) → i + 1 + k ≡ i + suc k
      shift i k = omega arith

  pub every_map : {B : Type 0} (f : B → A) (d : B) (xs : List B) → ((k : ℕ) → k < length xs → P (f (get_or xs k d))) → Every (map f xs)
  every_map f d [] h = tt
  every_map f d (x ∷ xs) h = (h 0 (omega arith), every_map f d xs (λ k u. h (suc k) (omega (arith, u))))

  pub map_every : {B : Type 0} (f : B → A) (d : B) (xs : List B) → Every (map f xs) → (k : ℕ) → k < length xs → P (f (get_or xs k d))
  map_every f d [] a k h = absurd (omega arith)
  map_every f d (x ∷ xs) a zero h = a.0
  map_every f d (x ∷ xs) a (suc k) h = map_every f d xs a.1 k (omega arith)

  pub every_take : (k : ℕ) (xs : List A) → Every xs → Every (take k xs)
  every_take zero xs a = tt
  every_take (suc k) [] a = tt
  every_take (suc k) (x ∷ xs) a = (a.0, every_take k xs a.1)

  pub every_drop : (k : ℕ) (xs : List A) → Every xs → Every (drop k xs)
  every_drop zero xs a = a
  every_drop (suc k) [] a = tt
  every_drop (suc k) (x ∷ xs) a = every_drop k xs a.1
