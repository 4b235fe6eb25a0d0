-- The bits of a word, one after another.
use Prim.Native.Nat.{ℕ, zero, suc, ◌+◌, ◌*◌, ◌%◌, ◌^◌, ◌<◌, ◌≤◌}
use mathlib.Core.Path.{◌≡◌, refl, ap, ◌∙◌}
use mathlib.Core.Bool.{Bool, true, false}
use native.Mathlib.Nat.{one-mul}
use native.Mathlib.Numerals.{add-one}
use native.Mathlib.Omega.{arith}
use lib.Pow.{pow_mono, shl_exact}
use Rattle.answer_rows.specs.Shown.{bit_value}
use Rattle.passes.specs.Helpers.{word_of}

pub few_bits : {k x n : ℕ} → k < x → x ≡ n → n ≤ 32 → k < 32
few_bits a b c = omega (arith, a, b, c)

-- 1 shifted as the code does
one_shifted : (k : ℕ) → k < 32 → 1 * 2 ^ k % 18446744073709551616 ≡ 2 ^ k
one_shifted k l = let h : 1 + k ≤ 64 = omega arith in let o : 1 < 2 ^ 1 = omega arith in shl_exact 1 k 64 o h ∙ one-mul (2 ^ k)

module _ (p : ℕ → Bool) where
  word_next : (k : ℕ) → word_of p (k + 1) ≡ word_of p k + bit_value (p k) k
  unfolding word_of
  word_next k = rw (add-one k)

  pub word_with : (k : ℕ) → p k ≡ true → word_of p (k + 1) ≡ word_of p k + 2 ^ k
  unfolding bit_value
  word_with k e = word_next k ∙ rw (e, bit_value)

  pub word_without : (k : ℕ) → p k ≡ false → word_of p (k + 1) ≡ word_of p k
  unfolding bit_value
  word_without k e = word_next k ∙ rw (e, bit_value) (omega arith)

  value_small : (b : Bool) (k : ℕ) → bit_value b k ≤ 2 ^ k
  unfolding bit_value
  value_small true k = omega arith
  value_small false k = omega arith

  pub word_fits : (k : ℕ) → word_of p k < 2 ^ k
  unfolding word_of
  word_fits zero = omega arith
  word_fits (suc k) = omega (arith, word_fits k, value_small (p k) k, double k)
    where
      double : (k : ℕ) → 2 ^ suc k ≡ 2 ^ k + 2 ^ k
      double k = omega arith

  -- below 2 ^ 32 where it has no more than 32 bits
  pub word_small : (k : ℕ) → k ≤ 32 → word_of p k < 4294967296
  word_small k l = omega (arith, word_fits k, pow_mono l)

  -- one bit more, as the code adds it
  module _ (k word : ℕ) (few : k < 32) (is : word ≡ word_of p k) where
    pub word_room : word + 1 * 2 ^ k % 18446744073709551616 < 18446744073709551616
    word_room =
        let l : k ≤ 32 = omega arith in
        omega (arith, one_shifted k few, is, word_small k l, pow_mono l)

    pub word_set : {next : ℕ} → next ≡ word + 1 * 2 ^ k % 18446744073709551616 → p k ≡ true → next ≡ word_of p (k + 1)
    word_set e t = omega (arith, e, one_shifted k few, is, word_with k t)

    pub word_kept : {next : ℕ} → next ≡ word → p k ≡ false → next ≡ word_of p (k + 1)
    word_kept e t = omega (arith, e, is, word_without k t)

  -- the last bit is in
  pub word_done : (k n word : ℕ) → word ≡ word_of p k → k ≤ n → n ≤ k → n ≤ 32 → (word ≡ word_of p n) × (word < 4294967296)
  word_done k n word e a b l =
      let q : k ≡ n = omega arith in
      let z : word ≡ word_of p n = e ∙ ap (word_of p) q in
      (z, omega (arith, z, word_small n l))

  pub word_none : (k : ℕ) → ((h : ℕ) → p h ≡ false) → word_of p k ≡ 0
  unfolding word_of bit_value
  word_none zero none = refl
  word_none (suc k) none = rw (none k, bit_value) (omega (arith, word_none k none))
