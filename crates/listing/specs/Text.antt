-- Text as bytes, and a window on it that is lent piece by piece.
use Rattle.std.specs.Prelude.{ℕ, zero, suc, ◌+◌, ◌/◌, ◌%◌, ◌≡◌, Bool, true, false, List, [], ◌∷◌, ◌++◌, ltb, length, take, drop}

-- the decimal digits of a number in ASCII; 20 digits hold every number of 64 bits
unfoldable pub digits : ℕ → ℕ → List ℕ
digits zero n = []
digits (suc fuel) n = elim (ltb n 10) [ true ↦ (48 + n) ∷ [] | false ↦ digits fuel (n / 10) ++ (48 + n % 10) ∷ [] ]

unfoldable pub decimal : ℕ → List ℕ
decimal n = digits 20 n

-- numbers, each behind a space, and the line's end
unfoldable pub numbers_text : List ℕ → List ℕ
numbers_text [] = 10 ∷ []
numbers_text (n ∷ ns) = 32 ∷ decimal n ++ numbers_text ns

-- a line: a word and numbers
unfoldable pub line : List ℕ → List ℕ → List ℕ
line word ns = word ++ numbers_text ns

-- a text only if a condition holds; the texts of i, i + 1 and so on, n of them
unfoldable pub only_if : Bool → List ℕ → List ℕ
only_if b text = elim b [ true ↦ text | false ↦ [] ]

unfoldable pub text_of : (ℕ → List ℕ) → ℕ → ℕ → List ℕ
text_of f i zero = []
text_of f i (suc n) = f i ++ text_of f (i + 1) n

-- the part of a text behind its first `skip` bytes, as far as a row of `room` bytes holds it
unfoldable pub window : ℕ → ℕ → List ℕ → List ℕ
window skip room text = take room (drop skip text)

-- a row that was lent holds the window on a text
unfoldable pub shown_in : ℕ → List ℕ → List ℕ → List ℕ
shown_in skip text lent = window skip (length lent) text ++ drop (length (window skip (length lent) text)) lent

-- A piece was added behind a text of `at` bytes: the row holds the window on the longer text.
pub record Emits (skip : ℕ) (piece : List ℕ) (at : ℕ) (before after : List ℕ) (r : ℕ) : Type 0 where
  pub counts : r ≡ at + length piece
  pub shows : (text lent : List ℕ) → at ≡ length text → before ≡ shown_in skip text lent → after ≡ shown_in skip (text ++ piece) lent
