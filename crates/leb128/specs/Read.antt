-- What `read` answers, and what it leaves in the lent numbers.
use Rattle.std.specs.Prelude.{ℕ, zero, suc, ◌+◌, ◌-◌, ◌≡◌, true, false, List, [], ◌∷◌, ◌++◌, ltb, length, drop, Result, Ok, Err}
use Rattle.leb128.specs.Groups.{value, groups, good}
use Rattle.refusal.specs.declared.Refusal.{Refusal}
use Rattle.refusal.specs.declared.Refusal.TheVariants.{NoNumber, NoRoom}

-- the numbers of a file, or why it is refused, and where
pub data Decoded : Type 0 where
  all : List ℕ → Decoded
  refused : Refusal → Decoded

-- the number x, and then the numbers behind it
unfoldable pub before : ℕ → Decoded → Decoded
before x (all xs) = all (x ∷ xs)
before x (refused why) = refused why

-- The numbers of the bytes xs, the first of which stands at `at`, where there is room for `room` more. For each number
-- first refusal 1, at its first byte, then refusal 5 (docs/OPERATIONS.md, Read). Every number takes a byte, so `fuel`, at
-- first the file's length, does not run out.
unfoldable pub numbers_from : ℕ → List ℕ → ℕ → ℕ → Decoded
numbers_from zero xs at room = all []
numbers_from (suc fuel) [] at room = all []
numbers_from (suc fuel) (b ∷ bs) at room =
    elim (good (groups (b ∷ bs))) [
      | false ↦ refused (NoNumber at)
      | true ↦
          elim (ltb 0 room) [
            | false ↦ refused NoRoom
            | true ↦ before (value (groups (b ∷ bs))) (numbers_from fuel (drop (length (groups (b ∷ bs))) (b ∷ bs)) (at + length (groups (b ∷ bs))) (room - 1))
          ]
    ]

-- what a file reads as, with room for `room` numbers
unfoldable pub read_of : List ℕ → ℕ → Decoded
read_of file room = numbers_from (length file) file 0 room

-- the answer: how many numbers, or the refusal
unfoldable pub answer_of : Decoded → Result ℕ Refusal
answer_of (all xs) = Ok (length xs)
answer_of (refused why) = Err why

-- the lent numbers afterwards: the file's, and behind them what was there; after a refusal all as they were
unfoldable pub lent_of : Decoded → List ℕ → List ℕ
lent_of (all xs) lent = xs ++ drop (length xs) lent
lent_of (refused why) lent = lent

pub record IsRead (file lent : List ℕ) (answer : Result ℕ Refusal) (numbers : List ℕ) : Type 0 where
  pub answers : answer ≡ answer_of (read_of file (length lent))
  pub leaves : numbers ≡ lent_of (read_of file (length lent)) lent
