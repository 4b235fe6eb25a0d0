-- What the Rust's functions, written over, have in common: optional indexes, pairs of indexes, and members of a list. A set is the list of what
-- was inserted, asked by `elem`; a hash map the list of its insertions, newest first.
use Rattle.std.specs.Prelude.{ℕ, zero, suc, ◌≡◌, ◌⊎◌, Bool, true, false, ◌&&◌, ◌||◌, List, [], ◌∷◌, eqb}

pub record Pair : Type 0 where
  pub first : ℕ
  pub second : ℕ

abbrev pub pair : ℕ → ℕ → Pair
pair a b = record { first = a; second = b }

unfoldable pub has_pair : ℕ → ℕ → List Pair → Bool
has_pair a b [] = false
has_pair a b (p ∷ ps) = (eqb a p.first && eqb b p.second) || has_pair a b ps

-- Option<index>; a number that stands for an index plus 1, 0 for none
pub data Found : Type 0 where
  none : Found
  found : ℕ → Found

unfoldable pub optional : ℕ → Found
optional zero = none
optional (suc n) = found n

unfoldable pub get : ℕ → List Pair → Found
get k [] = none
get k (p ∷ ps) = elim (eqb p.first k) [ true ↦ found p.second | false ↦ get k ps ]

unfoldable pub is_empty : {A : Type 0} → List A → Bool
is_empty [] = true
is_empty (x ∷ xs) = false

-- those of a list that pass a test (`filter`)
unfoldable pub filter : {A : Type 0} → (A → Bool) → List A → List A
filter test [] = []
filter test (x ∷ xs) = elim (test x) [ true ↦ x ∷ filter test xs | false ↦ filter test xs ]

-- x is an element of the list
abbrev pub In : {A : Type 0} → A → List A → Type 0
In x [] = ⊥
In x (y ∷ ys) = (x ≡ y) ⊎ In x ys

-- the same elements, in any order: what a walk over a hash set or map goes through
pub record SameMembers {A : Type 0} (xs ys : List A) : Type 0 where
  pub from : (x : A) → In x xs → In x ys
  pub back : (x : A) → In x ys → In x xs
