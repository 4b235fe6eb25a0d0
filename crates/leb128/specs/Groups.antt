-- Unsigned LEB128, after DWARF 5, section 7.6: a number is a sequence of groups, one in each byte, the least significant
-- first. The low seven bits of a byte are a digit; its high bit is set in every group but the last.
use Rattle.std.specs.Prelude.{ℕ, ◌+◌, ◌*◌, ◌%◌, ◌^◌, Bool, true, false, ◌&&◌, List, [], ◌∷◌, ltb, leb, length}

-- what a sequence of groups is worth: the sum of its digits, each 128 times as heavy as the one before
unfoldable pub value : List ℕ → ℕ
value [] = 0
value (b ∷ bs) = b % 128 + 128 * value bs

-- the groups of the number that a file begins with: its bytes up to the first whose high bit is clear (all of them if there is none)
unfoldable pub groups : List ℕ → List ℕ
groups [] = []
groups (b ∷ bs) = elim (ltb b 128) [ true ↦ b ∷ [] | false ↦ b ∷ groups bs ]

-- the high bit of the last group is clear: the number ends before the file does
unfoldable pub ended : List ℕ → Bool
ended [] = false
ended (b ∷ []) = ltb b 128
ended (b ∷ c ∷ bs) = ended (c ∷ bs)

-- the shortest form: no last digit 0 behind another digit
unfoldable pub shortest : List ℕ → Bool
shortest [] = true
shortest (b ∷ []) = true
shortest (b ∷ c ∷ []) = ltb 0 (c % 128)
shortest (b ∷ c ∷ d ∷ bs) = shortest (c ∷ d ∷ bs)

-- refusal 1 (docs/OPERATIONS.md, Read): a number of more than five groups, or not below 2^32, or not in shortest form, or cut off by the file's end
unfoldable pub good : List ℕ → Bool
good gs = ended gs && (leb (length gs) 5 && (ltb (value gs) (2 ^ 32) && shortest gs))
