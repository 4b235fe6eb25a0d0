-- The row after a bit is cleared.
use Prim.Native.Nat.{ℕ, ◌*◌, ◌-◌, ◌/◌, ◌%◌, ◌^◌, ◌<◌, ◌≤◌}
use mathlib.Core.Path.{◌≡◌, refl, ap}
use mathlib.Core.Bool.{Bool, true, false, not, ◌&&◌}
use mathlib.Core.List.{List}
use native.Mathlib.Decide.{ℕ_discrete}
use native.Mathlib.Omega.{arith}
use borrow.Author.Tests.{eq-eqb, ne_eqb, eqb-true}
use lib.Dec.{eqb}
use lib.ListN.{length, get_or, set}
use lib.Seq.{get_or-set_same, get_or-set_other}
use Rattle.bit_row.specs.Row.{bit_of, bit_at}
use Rattle.bit_row.proofs.Number.{one_fits, less_clears, less_keeps}

set_is_one : (row : List ℕ) (i : ℕ) → bit_at row i ≡ true → bit_of (i % 8) (get_or row (i / 8) 0) ≡ 1
unfolding bit_at
set_is_one row i u = eqb-true (bit_of (i % 8) (get_or row (i / 8) 0)) 1 u

pub set-fits : (row : List ℕ) (i : ℕ) → bit_at row i ≡ true → 2 ^ (i % 8) ≤ get_or row (i / 8) 0
set-fits row i u = one_fits (i % 8) (get_or row (i / 8) 0) (set_is_one row i u)

pub clear_before : (row : List ℕ) (i j : ℕ) → bit_at row i ≡ false → bit_at row j ≡ (not (eqb j i) && bit_at row j)
clear_before row i j s = go (eqb j i) refl
  where
    go : (b : Bool) → eqb j i ≡ b → bit_at row j ≡ (not b && bit_at row j)
    go true e = rw (eqb-true j i e) s
    go false e = refl

pub clear_now : (row : List ℕ) (i j v : ℕ) → i < 8 * length row → bit_at row i ≡ true → v ≡ get_or row (i / 8) 0 - 2 ^ (i % 8)
    → bit_at (set row (i / 8) v) j ≡ (not (eqb j i) && bit_at row j)
unfolding bit_at
clear_now row i j v l u e = go (ℕ_discrete (j / 8) (i / 8)) (ℕ_discrete (j % 8) (i % 8))
  where
    within : i / 8 < length row
    within = omega arith

    one-there : bit_of (i % 8) (get_or row (i / 8) 0) ≡ 1
    one-there = set_is_one row i u

    go : Dec (j / 8 ≡ i / 8) → Dec (j % 8 ≡ i % 8) → bit_at (set row (i / 8) v) j ≡ (not (eqb j i) && bit_at row j)
    go (yes byte) (yes bit) =
        rw (byte, bit, eq-eqb j i (omega arith), get_or-set_same row (i / 8) v 0 within, e, less_clears (i % 8) (get_or row (i / 8) 0) one-there)
    go (yes byte) (no bit) =
        rw (
          byte,
          ne_eqb j i (λ q. bit (ap (λ (n : ℕ). n % 8) q)),
          get_or-set_same row (i / 8) v 0 within,
          e,
          less_keeps (j % 8) (i % 8) (get_or row (i / 8) 0) bit one-there,
        )
    go (no byte) _ = rw (get_or-set_other row (i / 8) (j / 8) v 0 byte, ne_eqb j i (λ q. byte (ap (λ (n : ℕ). n / 8) q)))
