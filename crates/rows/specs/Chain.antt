-- Rows of `width` numbers from `at` on, in chains: those whose first numbers are the same modulo 1024, the latest first.
use Rattle.std.specs.Prelude.{ℕ, zero, suc, ◌+◌, ◌*◌, ◌%◌, ◌<◌, ◌≡◌, true, false, List, eqb, length, get_or}

-- 1 more than the last of k rows whose first number is h modulo 1024, or 0 where there is none
unfoldable pub last_of : List ℕ → ℕ → ℕ → ℕ → ℕ → ℕ
last_of numbers at width h zero = 0
last_of numbers at width h (suc k) =
    elim (eqb (get_or numbers (at + width * k) 0 % 1024) h) [ true ↦ suc k | false ↦ last_of numbers at width h k ]

-- for each of k rows the row before it in its chain
abbrev pub Linked : List ℕ → ℕ → ℕ → ℕ → List ℕ → Type 0
Linked numbers at width k nexts =
    (j : ℕ) → j < k → get_or nexts j 0 ≡ last_of numbers at width (get_or numbers (at + width * j) 0 % 1024) j

-- and for each chain its latest row
pub record Chained (numbers : List ℕ) (at width k : ℕ) (heads nexts : List ℕ) : Type 0 where
  pub wide : length heads ≡ 1024
  pub long : length nexts ≡ 16384
  pub latest : (h : ℕ) → h < 1024 → get_or heads h 0 ≡ last_of numbers at width h k
  pub linked : Linked numbers at width k nexts
