-- A file that is no longer than the room for its numbers is read or refused 1, and its numbers are no more than its bytes.
use Prim.Native.Nat.{ℕ, zero, suc, ◌+◌, ◌-◌, ◌<◌, ◌≤◌}
use mathlib.Core.Path.{◌≡◌, refl, ap, ◌∙◌, sym}
use mathlib.Core.Logic.{◌⊎◌, inl, inr}
use mathlib.Core.Bool.{Bool, true, false}
use mathlib.Core.List.{List, [], ◌∷◌}
use native.Mathlib.Omega.{arith}
use borrow.Author.Tests.{lt-ltb}
use lib.Dec.{ltb}
use lib.ListN.{length, drop, length-drop}
use Rattle.leb128.specs.Groups.{value, groups, good}
use Rattle.leb128.specs.Read.{Decoded, all, refused, before, numbers_from, read_of}
use Rattle.determine_side_effects.specs.refusal_crate.declared.Refusal.TheVariants.{NoNumber}

-- a number has a group
groups_some : (b : ℕ) (bs : List ℕ) → 0 < length (groups (b ∷ bs))
unfolding groups
groups_some b bs = go (ltb b 128) refl
  where
    go : (t : Bool) → ltb b 128 ≡ t → 0 < length (groups (b ∷ bs))
    go true e = rw (e, groups) (omega arith)
    go false e = rw (e, groups) (omega arith)

-- what is read of at most n bytes: at most n numbers, or 1 is answered
pub record Numbered (n : ℕ) (d : Decoded) : Type 0 where
  pub numbers : List ℕ
  pub few : length numbers ≤ n
  pub is : d ≡ all numbers

abbrev pub RefusedOne : Decoded → Type 0
RefusedOne d = (p : ℕ) × (d ≡ refused (NoNumber p))

-- a number more in front
one_more : (n k x : ℕ) (d : Decoded) → suc k ≤ n → Numbered k d ⊎ RefusedOne d → Numbered n (before x d) ⊎ RefusedOne (before x d)
unfolding before
one_more n k x d l (inl r) = inl (record { numbers = x ∷ r.numbers; few = omega (arith, l, r.few); is = ap (before x) r.is })
one_more n k x d l (inr r) = inr (r.0, ap (before x) r.1)

reads_from : (fuel : ℕ) (xs : List ℕ) (at room : ℕ) → length xs ≤ room → Numbered (length xs) (numbers_from fuel xs at room) ⊎ RefusedOne (numbers_from fuel xs at room)
unfolding numbers_from
reads_from zero xs at room l = inl (record { numbers = []; few = omega arith; is = refl })
reads_from (suc fuel) [] at room l = inl (record { numbers = []; few = omega arith; is = refl })
reads_from (suc fuel) (b ∷ bs) at room l = go (reads_from fuel (drop n (b ∷ bs)) (at + n) (room - 1) fits) (good (groups (b ∷ bs))) refl
  where
    n : ℕ
    n = length (groups (b ∷ bs))

    left : suc (length (drop n (b ∷ bs))) ≤ length (b ∷ bs)
    left = omega (arith, length-drop n (b ∷ bs), groups_some b bs)

    fits : length (drop n (b ∷ bs)) ≤ room - 1
    fits = omega (arith, left, l)

    go : Numbered (length (drop n (b ∷ bs))) (numbers_from fuel (drop n (b ∷ bs)) (at + n) (room - 1)) ⊎ RefusedOne (numbers_from fuel (drop n (b ∷ bs)) (at + n) (room - 1))
        → (t : Bool) → good (groups (b ∷ bs)) ≡ t → Numbered (length (b ∷ bs)) (numbers_from (suc fuel) (b ∷ bs) at room) ⊎ RefusedOne (numbers_from (suc fuel) (b ∷ bs) at room)
    go r false e = inr (at, rw (e, numbers_from))
    go r true e =
        rw (e, lt-ltb 0 room (omega (arith, l)), numbers_from)
        (one_more (length (b ∷ bs)) (length (drop n (b ∷ bs))) (value (groups (b ∷ bs))) (numbers_from fuel (drop n (b ∷ bs)) (at + n) (room - 1)) left r)

pub read_numbered : (file : List ℕ) (room : ℕ) → length file ≤ room → Numbered (length file) (read_of file room) ⊎ RefusedOne (read_of file room)
unfolding read_of
read_numbered file room l = reads_from (length file) file 0 room l

-- numbers that are read are no more than the bytes
pub numbers_few : (file : List ℕ) (room : ℕ) (numbers : List ℕ) → length file ≤ room → read_of file room ≡ all numbers → length numbers ≤ length file
numbers_few file room numbers l e = go (read_numbered file room l)
  where
    go : Numbered (length file) (read_of file room) ⊎ RefusedOne (read_of file room) → length numbers ≤ length file
    go (inl r) =
        let i : all numbers ≡ all r.numbers = sym e ∙ r.is in
        let j : numbers ≡ r.numbers = cc in
        omega (arith, ap length j, r.few)
    go (inr r) =
        let i : all numbers ≡ refused (NoNumber r.0) = sym e ∙ r.1 in
        let z : ◌≡◌ {A = ℕ} 0 1 = cc in
        absurd (omega arith)
