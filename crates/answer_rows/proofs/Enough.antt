-- Rows that are long enough, one test after the other.
use Prim.Native.Nat.{ℕ, ◌<◌, ◌≤◌}
use mathlib.Core.Path.{◌≡◌}
use mathlib.Core.Bool.{Bool, false, ◌&&◌}
use native.Mathlib.Omega.{arith}
use borrow.Author.Tests.{le-leb, lt-leb}
use lib.Dec.{leb}

module _ (n bytes length : ℕ) (rest : Bool) (is : n ≡ bytes) where
  pub too_short : length < n → false ≡ (leb bytes length && rest)
  too_short h = rw (lt-leb bytes length (omega (arith, is, h)))

  pub long_enough : {r : Bool} → n ≤ length → r ≡ rest → r ≡ (leb bytes length && rest)
  long_enough h e = rw (le-leb bytes length (omega (arith, is, h))) e
