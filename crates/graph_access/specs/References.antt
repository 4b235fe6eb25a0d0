-- How references stand in the numbers: a kind, then its parts (docs/GRAPH.md, Statement).
use Rattle.std.specs.Prelude.{ℕ, ◌+◌, ◌<◌, ◌≤◌, ◌≡◌, List, [], ◌∷◌, true, false, eqb, length, get_or}

-- how many numbers the reference at p has: kind 0 two, kind 1 one, kind 2 four and those depended on, kind 3 five
unfoldable pub reference_width : List ℕ → ℕ → ℕ
reference_width numbers p =
    elim (eqb (get_or numbers p 0) 0) [
      | true ↦ 2
      | false ↦ elim (eqb (get_or numbers p 0) 1) [ true ↦ 1 | false ↦ elim (eqb (get_or numbers p 0) 2) [ true ↦ 4 + get_or numbers (p + 3) 0 | false ↦ 5 ] ]
    ]

-- The reference at p is this row: its kind, then the parts. Between the parts of kind 2 and what it depends on the numbers have the
-- count, which the row does not hold.
pub record ReferenceAt (numbers : List ℕ) (p : ℕ) (row : List ℕ) : Type 0 where
  pub inside : p + reference_width numbers p ≤ length numbers
  pub kind : get_or row 0 0 ≡ get_or numbers p 0
  pub few : get_or row 0 0 < 4
  pub symbol : get_or row 0 0 ≡ 0 → get_or row 1 0 ≡ get_or numbers (p + 1) 0
  pub resolved : get_or row 0 0 ≡ 2 → (c : ℕ) → c < 3 → get_or row c 0 ≡ get_or numbers (p + c) 0
  pub depended : get_or row 0 0 ≡ 2 → length row ≡ 3 + get_or numbers (p + 3) 0
  pub depends : get_or row 0 0 ≡ 2 → (k : ℕ) → k < get_or numbers (p + 3) 0 → get_or row (3 + k) 0 ≡ get_or numbers (p + 4 + k) 0
  pub member : get_or row 0 0 ≡ 3 → (c : ℕ) → c < 5 → get_or row c 0 ≡ get_or numbers (p + c) 0

-- references one behind another from p on
abbrev pub ReferencesAt : List ℕ → ℕ → List (List ℕ) → Type 0
ReferencesAt numbers p [] = Unit {0}
ReferencesAt numbers p (row ∷ rows) = ReferenceAt numbers p row × ReferencesAt numbers (p + reference_width numbers p) rows
