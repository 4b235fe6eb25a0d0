-- The loop of `longer_at`: what is left of the groups, from what stands before them, is the whole number.
-- Weights and terms are small enough for the sums to fit in 64 bits.
use Prim.Native.Nat.{ℕ, zero, suc, ◌+◌, ◌*◌, ◌%◌, ◌^◌, ◌<◌, ◌≤◌}
use mathlib.Core.Path.{◌≡◌, refl, ap, sym}
use mathlib.Core.Bool.{Bool, true, false, ◌&&◌}
use mathlib.Core.List.{List, [], ◌∷◌}
use native.Mathlib.Nat.{mod-eq_of_lt, mul_comm, mul-add, mul_assoc, mul-le-mul_right}
use native.Mathlib.Numerals.{add-one}
use native.Mathlib.Omega.{arith}
use borrow.Author.Tests.{lt-ltb, le-ltb, le-leb, lt-leb}
use lib.Dec.{ltb, leb}
use lib.Pow.{pow-add}
use lib.ListN.{length, get_or, drop, drop_of_length-le}
use lib.Seq.{drop-cons}
use Rattle.std.specs.Prelude.{Option, Some, None}
use Rattle.leb128.specs.Groups.{value, groups, ended, shortest, good}
use Rattle.leb128.specs.Number.{told, number_of}

-- the groups gs are good behind k others, at least one, worth `sum`; the first of gs weighs w
unfoldable pub fine : ℕ → ℕ → ℕ → List ℕ → Bool
fine k sum w gs = ended gs && (leb (k + length gs) 5 && (ltb (sum + w * value gs) (2 ^ 32) && shortest (128 ∷ gs)))

-- the number whose first k groups are worth `sum`, and whose other groups the bytes xs begin with, at p
unfoldable pub rest : ℕ → ℕ → ℕ → ℕ → List ℕ → Option (ℕ × ℕ)
rest k sum w p xs = told (fine k sum w (groups xs)) (sum + w * value (groups xs)) (p + length (groups xs))

-- a group before another can be any
any_before : (a b c : ℕ) (gs : List ℕ) → shortest (a ∷ c ∷ gs) ≡ shortest (b ∷ c ∷ gs)
unfolding shortest
any_before a b c [] = refl
any_before a b c (d ∷ gs) = refl

spread : (sum w d v : ℕ) → sum + w * (d + 128 * v) ≡ sum + d * w + w * 128 * v
spread sum w d v = rw (mul-add, mul_assoc w 128 v, mul_comm w d) (omega arith)

-- one group more stands before
fine_more : (k sum w b : ℕ) (gs : List ℕ) → ltb b 128 ≡ false → fine k sum w (b ∷ gs) ≡ fine (k + 1) (sum + b % 128 * w) (w * 128) gs
unfolding fine ended value shortest
fine_more k sum w b [] h = ap (λ (t : Bool). t && (leb (k + 1) 5 && (ltb (sum + w * value (b ∷ [])) (2 ^ 32) && shortest (128 ∷ b ∷ [])))) h
fine_more k sum w b (c ∷ gs) h =
    let l : k + length (b ∷ c ∷ gs) ≡ k + 1 + length (c ∷ gs) = omega arith in
    rw (l, spread sum w (b % 128) (value (c ∷ gs)), any_before b 128 c gs)

-- no more than five groups
too_many : (sum w b : ℕ) (gs : List ℕ) → ltb b 128 ≡ false → fine 4 sum w (b ∷ gs) ≡ false
unfolding fine ended
too_many sum w b [] h = rw (h, fine)
too_many sum w b (c ∷ gs) h = go (ended (c ∷ gs))
  where
    go : (t : Bool) → (t && (leb (4 + length (b ∷ c ∷ gs)) 5 && (ltb (sum + w * value (b ∷ c ∷ gs)) (2 ^ 32) && shortest (128 ∷ b ∷ c ∷ gs)))) ≡ false
    go true = rw (lt-leb (4 + length (b ∷ c ∷ gs)) 5 (omega arith))
    go false = refl

and_false : (t : Bool) (x p : ℕ) → told (t && false) x p ≡ None
unfolding told
and_false true x p = refl
and_false false x p = refl

-- a last group b, which weighs w
fine_last : (k sum w b : ℕ) → b < 128 → k ≤ 4 → fine k sum w (b ∷ []) ≡ (ltb (sum + b * w) (2 ^ 32) && ltb 0 b)
unfolding fine ended value shortest
fine_last k sum w b h l =
    let e : sum + w * (b + 128 * 0) ≡ sum + b * w = rw (mul_comm b w) (omega arith) in
    rw (lt-ltb b 128 h, le-leb (k + 1) 5 (omega arith), mod-eq_of_lt h, e)

pub groups_last : (b : ℕ) (xs : List ℕ) → b < 128 → groups (b ∷ xs) ≡ b ∷ []
unfolding groups
groups_last b xs h = rw (lt-ltb b 128 h, groups)

pub groups_more : (b : ℕ) (xs : List ℕ) → 128 ≤ b → groups (b ∷ xs) ≡ b ∷ groups xs
unfolding groups
groups_more b xs h = rw (le-ltb b 128 h, groups)

-- the number whose last group is b
rest_of : (k sum w p b : ℕ) (xs : List ℕ) → b < 128 → k ≤ 4 → rest k sum w p (b ∷ xs) ≡ told (ltb (sum + b * w) (2 ^ 32) && ltb 0 b) (sum + b * w) (p + 1)
unfolding rest value
rest_of k sum w p b xs h l =
    let e : sum + w * (b + 128 * 0) ≡ sum + b * w = rw (mul_comm b w) (omega arith) in
    rw (groups_last b xs h, fine_last k sum w b h l, mod-eq_of_lt h, e)

module _ (file : List ℕ) (k sum w p : ℕ) (h : p < length file) where
  abbrev b : ℕ
  b = get_or file p 0

  pub rest_zero : k ≤ 4 → b ≡ 0 → rest k sum w p (drop p file) ≡ None
  rest_zero l z = rw (drop-cons file p 0 h, rest_of k sum w p b (drop (suc p) file) (omega arith) l, le-ltb 0 b (omega arith)) (and_false (ltb (sum + b * w) (2 ^ 32)) (sum + b * w) (p + 1))

  pub rest_big : k ≤ 4 → b < 128 → 2 ^ 32 ≤ sum + b * w → rest k sum w p (drop p file) ≡ None
  unfolding told
  rest_big l s z = rw (drop-cons file p 0 h, rest_of k sum w p b (drop (suc p) file) s l, le-ltb (sum + b * w) (2 ^ 32) z)

  pub rest_last : k ≤ 4 → b < 128 → 0 < b → sum + b * w < 2 ^ 32 → rest k sum w p (drop p file) ≡ Some (sum + b * w, p + 1)
  unfolding told
  rest_last l s z f = rw (drop-cons file p 0 h, rest_of k sum w p b (drop (suc p) file) s l, lt-ltb (sum + b * w) (2 ^ 32) f, lt-ltb 0 b z)

  pub rest_full : k ≡ 4 → 128 ≤ b → rest k sum w p (drop p file) ≡ None
  unfolding rest told
  rest_full l s = rw (drop-cons file p 0 h, groups_more b (drop (suc p) file) s, l, too_many sum w b (groups (drop (suc p) file)) (le-ltb b 128 s))

  pub rest_more : 128 ≤ b → rest k sum w p (drop p file) ≡ rest (k + 1) (sum + b % 128 * w) (w * 128) (p + 1) (drop (p + 1) file)
  unfolding rest value
  rest_more s =
      let gs : List ℕ = groups (drop (suc p) file) in
      let l : p + suc (length gs) ≡ suc p + length gs = omega arith in
      rw (add-one p, drop-cons file p 0 h, groups_more b (drop (suc p) file) s, fine_more k sum w b gs (le-ltb b 128 s), spread sum w (b % 128) (value gs), l)

pub rest_end : (file : List ℕ) (k sum w p : ℕ) → length file ≤ p → rest k sum w p (drop p file) ≡ None
unfolding rest fine ended groups told
rest_end file k sum w p h = rw (drop_of_length-le file h)

-- behind a first group that is not the last
good_more : (b : ℕ) (gs : List ℕ) → 128 ≤ b → fine 1 (b % 128) 128 gs ≡ good (b ∷ gs)
unfolding fine good ended value shortest
good_more b [] h = rw (le-ltb b 128 h)
good_more b (c ∷ gs) h =
    let l : 1 + length (c ∷ gs) ≡ length (b ∷ c ∷ gs) = omega arith in
    rw (l, any_before 128 b c gs, fine)

pub rest_begun : (file : List ℕ) (at : ℕ) → at < length file → 128 ≤ get_or file at 0 → rest 1 (get_or file at 0 % 128) 128 (at + 1) (drop (at + 1) file) ≡ number_of at (drop at file)
unfolding rest number_of value
rest_begun file at h s =
    let b : ℕ = get_or file at 0 in
    let gs : List ℕ = groups (drop (suc at) file) in
    let l : at + suc (length gs) ≡ suc at + length gs = omega arith in
    rw (add-one at, drop-cons file at 0 h, groups_more b (drop (suc at) file) s, good_more b gs s, l)

good_one : (b : ℕ) → b < 128 → good (b ∷ []) ≡ true
unfolding good ended value shortest
good_one b h = rw (lt-ltb b 128 h, mod-eq_of_lt h, lt-ltb (b + 128 * 0) (2 ^ 32) (omega arith))

pub number_short : (file : List ℕ) (at : ℕ) → at < length file → get_or file at 0 < 128 → Some (get_or file at 0, at + 1) ≡ number_of at (drop at file)
unfolding number_of value told
number_short file at h s =
    let b : ℕ = get_or file at 0 in
    let e : b + 128 * 0 ≡ b = omega arith in
    rw (drop-cons file at 0 h, groups_last b (drop (suc at) file) s, good_one b s, mod-eq_of_lt s, e)

-- what a group weighs, and what it is worth
pub weight_low : (k : ℕ) → k ≤ 4 → 128 ^ k ≤ 268435456
weight_low zero h = omega arith
weight_low (suc zero) h = omega arith
weight_low (suc (suc zero)) h = omega arith
weight_low (suc (suc (suc zero))) h = omega arith
weight_low (suc (suc (suc (suc zero)))) h = omega arith
weight_low (suc (suc (suc (suc (suc k))))) h = absurd (omega arith)

pub term_low : (d w : ℕ) → d < 128 → d * w ≤ 127 * w
term_low d w h = mul-le-mul_right w (omega arith)

pub weight_more : (k : ℕ) → 128 ^ k * 128 ≡ 128 ^ (k + 1)
weight_more k = sym (pow-add 128 k 1)
