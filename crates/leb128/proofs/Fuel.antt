-- The fuel of `numbers_from` never decides: any that is not below the number of bytes gives the same.
use Prim.Native.Nat.{ℕ, zero, suc, ◌+◌, ◌-◌, ◌<◌, ◌≤◌}
use mathlib.Core.Path.{◌≡◌, refl, ap}
use mathlib.Core.Bool.{Bool, true, false}
use mathlib.Core.List.{List, [], ◌∷◌}
use native.Mathlib.Omega.{arith}
use lib.Dec.{ltb}
use lib.ListN.{length, drop, length-drop}
use Rattle.leb128.specs.Groups.{value, groups, good}
use Rattle.leb128.specs.Read.{before, numbers_from}

-- a number has a group
groups_some : (b : ℕ) (bs : List ℕ) → 0 < length (groups (b ∷ bs))
unfolding groups
groups_some b bs = go (ltb b 128) refl
  where
    go : (t : Bool) → ltb b 128 ≡ t → 0 < length (groups (b ∷ bs))
    go true e = rw (e, groups) (omega arith)
    go false e = rw (e, groups) (omega arith)

pub fuel_enough : (f g : ℕ) (xs : List ℕ) (at room : ℕ) → length xs ≤ f → length xs ≤ g → numbers_from f xs at room ≡ numbers_from g xs at room
unfolding numbers_from
fuel_enough zero zero xs at room h k = refl
fuel_enough zero (suc g) [] at room h k = refl
fuel_enough zero (suc g) (b ∷ bs) at room h k = absurd (omega arith)
fuel_enough (suc f) zero [] at room h k = refl
fuel_enough (suc f) zero (b ∷ bs) at room h k = absurd (omega arith)
fuel_enough (suc f) (suc g) [] at room h k = refl
fuel_enough (suc f) (suc g) (b ∷ bs) at room h k = go (fuel_enough f g (drop n (b ∷ bs)) (at + n) (room - 1) less more) (good (groups (b ∷ bs))) refl (ltb 0 room) refl
  where
    n : ℕ
    n = length (groups (b ∷ bs))

    less : length (drop n (b ∷ bs)) ≤ f
    less = omega (arith, length-drop n (b ∷ bs), groups_some b bs)

    more : length (drop n (b ∷ bs)) ≤ g
    more = omega (arith, length-drop n (b ∷ bs), groups_some b bs)

    go : numbers_from f (drop n (b ∷ bs)) (at + n) (room - 1) ≡ numbers_from g (drop n (b ∷ bs)) (at + n) (room - 1) → (s : Bool) → good (groups (b ∷ bs)) ≡ s → (t : Bool) → ltb 0 room ≡ t
        → numbers_from (suc f) (b ∷ bs) at room ≡ numbers_from (suc g) (b ∷ bs) at room
    go r false u t v = rw (u, numbers_from)
    go r true u false v = rw (u, v, numbers_from)
    go r true u true v = rw (u, v, numbers_from) (ap (before (value (groups (b ∷ bs)))) r)
