-- What the program has read (docs/OPERATIONS.md, Program keep).
use Rattle.std.specs.Prelude.{ℕ, ◌≤◌, ◌<◌, ◌≡◌, List, length, take, Option, Result, Ok, Err}
use Rattle.std.specs.Io.KnownBytes.{Consumes, IsAtEnd}

-- a buffer counts as filled no further than it is long
abbrev pub FilledUpTo : {E : Type 0} → ℕ → Result ℕ E → Type 0
FilledUpTo room (Ok n) = n ≤ room
FilledUpTo room (Err e) = Unit {0}

-- what a buffer is filled with are the reader's next bytes, and if they do not fill it, the reader has no more
abbrev pub FilledFrom : {E : Type 0} → Option (List ℕ) → Option (List ℕ) → List ℕ → Result ℕ E → Type 0
FilledFrom old new buffer (Ok n) = Consumes old new (take n buffer) × (n < length buffer → IsAtEnd new)
FilledFrom old new buffer (Err e) = Unit {0}

-- Two buffers count as filled no further than they are long, and the second only if the first is full.
pub record InOrder (front behind : List ℕ) (got more : ℕ) : Type 0 where
  pub fits : got ≤ length front
  pub fits_behind : more ≤ length behind
  pub in_order : 0 < more → got ≡ length front

abbrev pub ReadInto : {E : Type 0} → List ℕ → List ℕ → Result (ℕ × ℕ) E → Type 0
ReadInto front behind (Ok (got, more)) = InOrder front behind got more
ReadInto front behind (Err e) = Unit {0}

-- Two rows of bytes are one file: the first 8,192 bytes, and what is behind them.
abbrev pub IsFile : List ℕ → List ℕ → Type 0
IsFile front behind = (length front ≤ 8192) × (0 < length behind → length front ≡ 8192)
