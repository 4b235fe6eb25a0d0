-- The numbers that are left of a file from a place, by the number that stands there.
use Prim.Native.Nat.{ℕ, zero, suc, ◌+◌, ◌-◌, ◌<◌, ◌≤◌}
use mathlib.Core.Path.{◌≡◌, refl, ap, ◌∙◌}
use mathlib.Core.Bool.{Bool, true, false}
use mathlib.Core.List.{List, [], ◌∷◌}
use native.Mathlib.Omega.{arith}
use borrow.Author.Tests.{lt-ltb, le-ltb, ltb-true, ltb-false}
use lib.Dec.{ltb}
use lib.ListN.{length, drop, length-drop, drop_of_length-le}
use lib.Seq.{drop-drop}
use Rattle.std.specs.Prelude.{Some, None}
use Rattle.refusal.specs.declared.Refusal.TheVariants.{NoNumber, NoRoom}
use Rattle.leb128.specs.Groups.{value, groups, good}
use Rattle.leb128.specs.Read.{Decoded, all, refused, before, numbers_from, read_of}
use Rattle.leb128.specs.Number.{told, number_of}
use Rattle.leb128.proofs.Scan.{groups_last, groups_more}

-- a number is at least one group, and ends within the file
groups_long : (xs : List ℕ) → length (groups xs) ≤ length xs
unfolding groups
groups_long [] = omega arith
groups_long (b ∷ bs) = go (ltb b 128) refl (groups_long bs)
  where
    go : (t : Bool) → ltb b 128 ≡ t → length (groups bs) ≤ length bs → length (groups (b ∷ bs)) ≤ length (b ∷ bs)
    go true e l = rw (groups_last b bs (ltb-true b 128 e)) (omega arith)
    go false e l = rw (groups_more b bs (ltb-false b 128 e)) (omega arith)

groups_some : (xs : List ℕ) → 0 < length xs → 0 < length (groups xs)
groups_some [] h = absurd (omega arith)
groups_some (b ∷ bs) h = go (ltb b 128) refl
  where
    go : (t : Bool) → ltb b 128 ≡ t → 0 < length (groups (b ∷ bs))
    go true e = rw (groups_last b bs (ltb-true b 128 e)) (omega arith)
    go false e = rw (groups_more b bs (ltb-false b 128 e)) (omega arith)

told_is : (t : Bool) (x p x' p' : ℕ) → told t x p ≡ Some (x', p') → (t ≡ true) × (x ≡ x') × (p ≡ p')
unfolding told
told_is true x p x' p' e = let q : (x, p) ≡ (x', p') = cc in (refl, ap (λ (w : ℕ × ℕ). w.0) q, ap (λ (w : ℕ × ℕ). w.1) q)
told_is false x p x' p' e = absurd cc

told_bad : (t : Bool) (x p : ℕ) → told t x p ≡ None → t ≡ false
unfolding told
told_bad true x p e = absurd cc
told_bad false x p e = refl

-- one number of the bytes xs
from_bad : (fuel : ℕ) (xs : List ℕ) (at room : ℕ) → 0 < fuel → 0 < length xs → good (groups xs) ≡ false → numbers_from fuel xs at room ≡ refused (NoNumber at)
unfolding numbers_from
from_bad zero xs at room f h g = absurd (omega arith)
from_bad (suc fuel) [] at room f h g = absurd (omega arith)
from_bad (suc fuel) (b ∷ bs) at room f h g = rw (g, numbers_from)

from_full : (fuel : ℕ) (xs : List ℕ) (at room : ℕ) → 0 < fuel → 0 < length xs → good (groups xs) ≡ true → room ≡ 0 → numbers_from fuel xs at room ≡ refused NoRoom
unfolding numbers_from
from_full zero xs at room f h g r = absurd (omega arith)
from_full (suc fuel) [] at room f h g r = absurd (omega arith)
from_full (suc fuel) (b ∷ bs) at room f h g r = rw (g, le-ltb 0 room (omega arith), numbers_from)

from_more : (fuel : ℕ) (xs : List ℕ) (at room : ℕ) → 0 < fuel → 0 < length xs → good (groups xs) ≡ true → 0 < room
    → numbers_from fuel xs at room ≡ before (value (groups xs)) (numbers_from (fuel - 1) (drop (length (groups xs)) xs) (at + length (groups xs)) (room - 1))
unfolding numbers_from
from_more zero xs at room f h g r = absurd (omega arith)
from_more (suc fuel) [] at room f h g r = absurd (omega arith)
from_more (suc fuel) (b ∷ bs) at room f h g r = let l : suc fuel - 1 ≡ fuel = omega arith in rw (l, g, lt-ltb 0 room r, numbers_from)

from_end : (fuel at room : ℕ) → numbers_from fuel [] at room ≡ all []
unfolding numbers_from
from_end zero at room = refl
from_end (suc fuel) at room = refl

-- what is left from `at` on, n numbers having been read
unfoldable pub left : List ℕ → ℕ → ℕ → ℕ → Decoded
left file room n at = numbers_from (length file - n) (drop at file) at (room - n)

pub left_start : (file : List ℕ) (room : ℕ) → left file room 0 0 ≡ read_of file room
unfolding left read_of
left_start file room =
    let f : length file - 0 ≡ length file = omega arith in
    let q : room - 0 ≡ room = omega arith in
    rw (f, q)

pub left_end : (file : List ℕ) (room n at : ℕ) → length file ≤ at → left file room n at ≡ all []
unfolding left
left_end file room n at h = rw (drop_of_length-le file h) (from_end _ _ _)

module _ (file : List ℕ) (room n at : ℕ) (few : n ≤ at) (h : at < length file) where
  fuel : 0 < length file - n
  fuel = omega arith

  some : 0 < length (drop at file)
  some = rw (length-drop at file) (omega arith)

  pub left_bad : number_of at (drop at file) ≡ None → left file room n at ≡ refused (NoNumber at)
  unfolding left number_of
  left_bad e = from_bad _ _ _ _ fuel some (told_bad _ _ _ e)

  module _ (x next : ℕ) (e : number_of at (drop at file) ≡ Some (x, next)) where
    its : (good (groups (drop at file)) ≡ true) × (value (groups (drop at file)) ≡ x) × (at + length (groups (drop at file)) ≡ next)
    unfolding number_of
    its = told_is _ _ _ _ _ e

    pub onward : (at < next) × (next ≤ length file)
    onward =
        let s = groups_some (drop at file) some in
        let g = groups_long (drop at file) in
        let l = length-drop at file in (omega (arith, its.2), omega (arith, its.2))

    pub left-full : room ≤ n → left file room n at ≡ refused NoRoom
    unfolding left
    left-full r = from_full _ _ _ _ fuel some its.0 (omega arith)

    pub left-more : n < room → left file room n at ≡ before x (left file room (n + 1) next)
    unfolding left
    left-more r =
        let f : length file - n - 1 ≡ length file - (n + 1) = omega arith in
        let q : room - n - 1 ≡ room - (n + 1) = omega arith in
        from_more (length file - n) (drop at file) at (room - n) fuel some its.0 (omega arith) ∙ rw (drop-drop, its.2, its.1, f, q)
