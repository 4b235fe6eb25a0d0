-- Bytes of bits: each bit is the one that the byte was made of, and a row with such bits is the row of such bytes.
use Prim.Native.Nat.{ℕ, zero, suc, ◌+◌, ◌*◌, ◌-◌, ◌/◌, ◌%◌, ◌^◌, ◌<◌, ◌≤◌}
use mathlib.Core.Path.{◌≡◌, refl, ap, ◌∙◌, sym}
use mathlib.Core.Bool.{Bool, true, false}
use mathlib.Core.List.{List, ◌++◌, append-nil}
use native.Mathlib.Nat.{mul-one, mul-zero}
use native.Mathlib.Decide.{dec_lt}
use native.Mathlib.Omega.{arith}
use lib.Dec.{eqb}
use lib.ListN.{length, get_or, drop, length-append, length-drop, get_or-append, drop_of_length-le}
use lib.Seq.{drop_at, get_or-drop}
use Rattle.bit_row.specs.Row.{bit_of, bit_at}
use Rattle.bit_row.proofs.Place.{bit_in_byte, bit_drop}
use Rattle.bit_row.proofs.Same.{rows_ext}
use Rattle.answer_rows.specs.Shown.{bit_value, byte_of, bytes_of}
use Rattle.determine_side_effects.proofs.Lists.{length-tabulate, get_d_tabulate}

unfoldable one : Bool → ℕ
one true = 1
one false = 0

value_is : (b : Bool) (k : ℕ) → bit_value b k ≡ 2 ^ k * one b
unfolding bit_value one
value_is true k = sym (mul-one (2 ^ k))
value_is false k = sym (mul-zero (2 ^ k))

one_small : (b : Bool) → one b ≤ 1
unfolding one
one_small true = omega arith
one_small false = omega arith

one_tells : (b : Bool) (n : ℕ) → n ≡ one b → eqb n 1 ≡ b
unfolding one
one_tells true n e = rw e
one_tells false n e = rw e

module _ (a b c d e f g h : Bool) where
  unfoldable sum : ℕ
  sum = bit_value a 0 + bit_value b 1 + bit_value c 2 + bit_value d 3 + bit_value e 4 + bit_value f 5 + bit_value g 6 + bit_value h 7

  plain : sum ≡ one a + 2 * one b + 4 * one c + 8 * one d + 16 * one e + 32 * one f + 64 * one g + 128 * one h
  unfolding sum
  plain =
      let va : bit_value a 0 ≡ 1 * one a = value_is a 0 in
      let vb : bit_value b 1 ≡ 2 * one b = value_is b 1 in
      let vc : bit_value c 2 ≡ 4 * one c = value_is c 2 in
      let vd : bit_value d 3 ≡ 8 * one d = value_is d 3 in
      let ve : bit_value e 4 ≡ 16 * one e = value_is e 4 in
      let vf : bit_value f 5 ≡ 32 * one f = value_is f 5 in
      let vg : bit_value g 6 ≡ 64 * one g = value_is g 6 in
      let vh : bit_value h 7 ≡ 128 * one h = value_is h 7 in
      omega (arith, va, vb, vc, vd, ve, vf, vg, vh)

  sum_small : sum < 256
  sum_small = omega (arith, plain, one_small a, one_small b, one_small c, one_small d, one_small e, one_small f, one_small g, one_small h)

  bit_0 : eqb (bit_of 0 sum) 1 ≡ a
  unfolding bit_of
  bit_0 =
      let v : sum / 1 % 2 ≡ one a = omega (arith, plain, one_small a, one_small b, one_small c, one_small d, one_small e, one_small f, one_small g, one_small h) in
      one_tells a (sum / 1 % 2) v

  bit_1 : eqb (bit_of 1 sum) 1 ≡ b
  unfolding bit_of
  bit_1 =
      let v : sum / 2 % 2 ≡ one b = omega (arith, plain, one_small a, one_small b, one_small c, one_small d, one_small e, one_small f, one_small g, one_small h) in
      one_tells b (sum / 2 % 2) v

  bit_2 : eqb (bit_of 2 sum) 1 ≡ c
  unfolding bit_of
  bit_2 =
      let v : sum / 4 % 2 ≡ one c = omega (arith, plain, one_small a, one_small b, one_small c, one_small d, one_small e, one_small f, one_small g, one_small h) in
      one_tells c (sum / 4 % 2) v

  bit_3 : eqb (bit_of 3 sum) 1 ≡ d
  unfolding bit_of
  bit_3 =
      let v : sum / 8 % 2 ≡ one d = omega (arith, plain, one_small a, one_small b, one_small c, one_small d, one_small e, one_small f, one_small g, one_small h) in
      one_tells d (sum / 8 % 2) v

  bit_4 : eqb (bit_of 4 sum) 1 ≡ e
  unfolding bit_of
  bit_4 =
      let v : sum / 16 % 2 ≡ one e = omega (arith, plain, one_small a, one_small b, one_small c, one_small d, one_small e, one_small f, one_small g, one_small h) in
      one_tells e (sum / 16 % 2) v

  bit_5 : eqb (bit_of 5 sum) 1 ≡ f
  unfolding bit_of
  bit_5 =
      let v : sum / 32 % 2 ≡ one f = omega (arith, plain, one_small a, one_small b, one_small c, one_small d, one_small e, one_small f, one_small g, one_small h) in
      one_tells f (sum / 32 % 2) v

  bit_6 : eqb (bit_of 6 sum) 1 ≡ g
  unfolding bit_of
  bit_6 =
      let v : sum / 64 % 2 ≡ one g = omega (arith, plain, one_small a, one_small b, one_small c, one_small d, one_small e, one_small f, one_small g, one_small h) in
      one_tells g (sum / 64 % 2) v

  bit_7 : eqb (bit_of 7 sum) 1 ≡ h
  unfolding bit_of
  bit_7 =
      let v : sum / 128 % 2 ≡ one h = omega (arith, plain, one_small a, one_small b, one_small c, one_small d, one_small e, one_small f, one_small g, one_small h) in
      one_tells h (sum / 128 % 2) v

-- a byte's bits
module _ (p : ℕ → Bool) (b : ℕ) where
  abbrev at : ℕ → Bool
  at i = p (8 * b + i)

  pub byte_small : byte_of p b < 256
  unfolding byte_of sum
  byte_small = sum_small (p (8 * b)) (at 1) (at 2) (at 3) (at 4) (at 5) (at 6) (at 7)

  pub byte_bit : (k : ℕ) → k < 8 → eqb (bit_of k (byte_of p b)) 1 ≡ p (8 * b + k)
  unfolding byte_of sum
  byte_bit zero l = let z : 8 * b ≡ 8 * b + 0 = omega arith in bit_0 (p (8 * b)) (at 1) (at 2) (at 3) (at 4) (at 5) (at 6) (at 7) ∙ ap p z
  byte_bit (suc zero) l = bit_1 (p (8 * b)) (at 1) (at 2) (at 3) (at 4) (at 5) (at 6) (at 7)
  byte_bit (suc (suc zero)) l = bit_2 (p (8 * b)) (at 1) (at 2) (at 3) (at 4) (at 5) (at 6) (at 7)
  byte_bit (suc (suc (suc zero))) l = bit_3 (p (8 * b)) (at 1) (at 2) (at 3) (at 4) (at 5) (at 6) (at 7)
  byte_bit (suc (suc (suc (suc zero)))) l = bit_4 (p (8 * b)) (at 1) (at 2) (at 3) (at 4) (at 5) (at 6) (at 7)
  byte_bit (suc (suc (suc (suc (suc zero))))) l = bit_5 (p (8 * b)) (at 1) (at 2) (at 3) (at 4) (at 5) (at 6) (at 7)
  byte_bit (suc (suc (suc (suc (suc (suc zero)))))) l = bit_6 (p (8 * b)) (at 1) (at 2) (at 3) (at 4) (at 5) (at 6) (at 7)
  byte_bit (suc (suc (suc (suc (suc (suc (suc zero))))))) l = bit_7 (p (8 * b)) (at 1) (at 2) (at 3) (at 4) (at 5) (at 6) (at 7)
  byte_bit (suc (suc (suc (suc (suc (suc (suc (suc k)))))))) l = absurd (omega arith)

-- a row whose first n bytes have the bits p and whose others are those of another row
module _ (p : ℕ → Bool) (n : ℕ) (lent : List ℕ) (long : n ≤ length lent) where
  unfoldable made : List ℕ
  made = bytes_of p n ++ drop n lent

  bytes_long : length (bytes_of p n) ≡ n
  unfolding bytes_of
  bytes_long = length-tabulate (byte_of p) 0 n

  made_long : length made ≡ length lent
  unfolding made
  made_long = length-append (bytes_of p n) (drop n lent) ∙ omega (arith, bytes_long, length-drop n lent)

  made_front : (i : ℕ) → i < n → get_or made i 0 ≡ byte_of p i
  unfolding made bytes_of
  made_front i l =
      let h : i < length (bytes_of p n) = omega (arith, bytes_long) in
      let z : 0 + i ≡ i = omega arith in
      get_or-append (bytes_of p n) (drop n lent) 0 i h ∙ get_d_tabulate (byte_of p) 0 n i 0 l ∙ ap (byte_of p) z

  made_rest : drop n made ≡ drop n lent
  unfolding made
  made_rest = drop_at (bytes_of p n) (drop n lent) n bytes_long

  made_behind : (i : ℕ) → n ≤ i → get_or made i 0 ≡ get_or lent i 0
  made_behind i l =
      let e : n + (i - n) ≡ i = omega arith in
      ap (λ j. get_or made j 0) (sym e) ∙ sym (get_or-drop n made (i - n) 0) ∙ ap (λ (r : List ℕ). get_or r (i - n) 0) made_rest ∙ get_or-drop n lent (i - n) 0
      ∙ ap (λ j. get_or lent j 0) e

  made_small : ((i : ℕ) → get_or lent i 0 < 256) → (i : ℕ) → i < length made → get_or made i 0 < 256
  made_small small i l = go (dec_lt i n)
    where
      go : Dec (i < n) → get_or made i 0 < 256
      go (yes h) = rw (made_front i h) (byte_small p i)
      go (no h) = rw (made_behind i (omega arith)) (small i)

  made_bit : (j : ℕ) → j < 8 * n → bit_at made j ≡ p j
  made_bit j l =
      let e : 8 * (j / 8) + j % 8 ≡ j = omega arith in
      let i : j / 8 < n = omega arith in
      let k : j % 8 < 8 = omega arith in
      ap (λ m. bit_at made m) (sym e) ∙ bit_in_byte made (j / 8) (j % 8) k ∙ ap (λ x. eqb (bit_of (j % 8) x) 1) (made_front (j / 8) i) ∙ byte_bit p (j / 8) (j % 8) k
      ∙ ap p e

  made_bit_behind : (j : ℕ) → 8 * n ≤ j → bit_at made j ≡ bit_at lent j
  made_bit_behind j l =
      let e : 8 * n + (j - 8 * n) ≡ j = omega arith in
      ap (λ m. bit_at made m) (sym e) ∙ sym (bit_drop n made (j - 8 * n)) ∙ ap (λ (r : List ℕ). bit_at r (j - 8 * n)) made_rest ∙ bit_drop n lent (j - 8 * n)
      ∙ ap (λ m. bit_at lent m) e

  pub row_is : (row : List ℕ) → length row ≡ length lent → ((i : ℕ) → get_or row i 0 < 256) → ((i : ℕ) → get_or lent i 0 < 256)
      → ((j : ℕ) → j < 8 * n → bit_at row j ≡ p j) → ((j : ℕ) → 8 * n ≤ j → bit_at row j ≡ bit_at lent j) → row ≡ bytes_of p n ++ drop n lent
  unfolding made
  row_is row same small small-lent front behind = rows_ext row made (same ∙ sym made_long) (λ i l. small i) (made_small small-lent) bits
    where
      bits : (j : ℕ) → j < 8 * length row → bit_at row j ≡ bit_at made j
      bits j l = go (dec_lt j (8 * n))
        where
          go : Dec (j < 8 * n) → bit_at row j ≡ bit_at made j
          go (yes h) = front j h ∙ sym (made_bit j h)
          go (no h) = let b : 8 * n ≤ j = omega arith in behind j b ∙ sym (made_bit_behind j b)

-- a row is the bytes of its bits
pub whole_row_is : (p : ℕ → Bool) (row : List ℕ) → ((i : ℕ) → get_or row i 0 < 256) → ((j : ℕ) → bit_at row j ≡ p j) → row ≡ bytes_of p (length row)
whole_row_is p row small bits =
    let n : length row ≤ length row = omega arith in
    row_is p (length row) row n row refl small small (λ j l. bits j) (λ j l. refl)
    ∙ ap (λ (r : List ℕ). bytes_of p (length row) ++ r) (drop_of_length-le row n)
    ∙ append-nil (bytes_of p (length row))
