-- The loop of `fill`: what is left, behind the numbers that were written, is the whole.
use Prim.Native.Nat.{ℕ, suc, ◌+◌, ◌<◌, ◌≤◌}
use mathlib.Core.Path.{◌≡◌, refl, ◌∙◌, sym}
use mathlib.Core.Bool.{true, false}
use mathlib.Core.List.{List, ◌++◌, append_assoc}
use native.Mathlib.Omega.{arith}
use native.Mathlib.Numerals.{add-one}
use lib.ListN.{length, take, drop, set, length-set, take-append-drop}
use lib.Seq.{take-suc-set, drop-set-lt}
use Rattle.std.specs.Prelude.{Some, None}
use Rattle.leb128.specs.Read.{Decoded, all, refused, before, read_of, lent_of}
use Rattle.leb128.specs.Number.{number_of, accepted}
use Rattle.leb128.proofs.Turn.{left, left_start, left_end, left_bad, left-full, left-more, onward}

-- the lent numbers afterwards, n of them having been written before
unfoldable pub behind : ℕ → Decoded → List ℕ → List ℕ
behind n (all xs) lent = take n lent ++ (xs ++ drop (n + length xs) lent)
behind n (refused why) lent = lent

behind_before : (n x : ℕ) (d : Decoded) (lent : List ℕ) → n < length lent → accepted d ≡ true → behind n (before x d) lent ≡ behind (n + 1) d (set lent n x)
unfolding behind before accepted
behind_before n x (all xs) lent h a =
    let l : n + suc (length xs) ≡ suc n + length xs = omega arith in
    rw (add-one n, take-suc-set lent n x h, drop-set-lt (suc n + length xs) lent n x (omega arith), l, append_assoc)
behind_before n x (refused why) lent h a = absurd cc

behind_none : (d : Decoded) (lent : List ℕ) → behind 0 d lent ≡ lent_of d lent
unfolding behind lent_of
behind_none (all xs) lent = let l : 0 + length xs ≡ length xs = omega arith in rw l
behind_none (refused why) lent = refl

accepted_before : (x : ℕ) (d : Decoded) → accepted (before x d) ≡ accepted d
unfolding accepted before
accepted_before x (all xs) = refl
accepted_before x (refused why) = refl

pub record Filling (file lent : List ℕ) (numbers : List ℕ) (n at : ℕ) : Type 0 where
  pub long : length numbers ≡ length lent
  pub few : n ≤ at
  pub low : at ≤ length file
  pub fits : accepted (left file (length lent) n at) ≡ true
  pub on : behind n (left file (length lent) n at) numbers ≡ lent_of (read_of file (length lent)) lent

pub fill_start : (file lent : List ℕ) → accepted (read_of file (length lent)) ≡ true → Filling file lent lent 0 0
fill_start file lent a = record { long = refl; few = omega arith; low = omega arith; fits = rw (left_start file (length lent)) a; on = rw (left_start file (length lent)) (behind_none _ _) }

module _ (file lent numbers : List ℕ) (n at : ℕ) (c : Filling file lent numbers n at) (h : at < length file) where
  -- a good file has no bad number, and no number without room
  pub never_bad : number_of at (drop at file) ≡ None → ⊥
  unfolding accepted
  never_bad e =
      let a : false ≡ true = rw (left_bad _ (length lent) _ _ c.few h e) at c.fits in
      cc

  module _ (x next : ℕ) (e : number_of at (drop at file) ≡ Some (x, next)) where
    never_full : length lent ≤ n → ⊥
    unfolding accepted
    never_full r =
        let a : false ≡ true = rw (left-full _ _ _ _ c.few h _ _ e r) at c.fits in
        cc

    pub fill-room : n < length numbers
    fill-room = omega (arith, c.long, never_full)

    pub fill_more : Filling file lent (set numbers n x) (n + 1) next
    fill_more =
        let o = onward file (length lent) n at c.few h x next e in
        let m = left-more file (length lent) n at c.few h x next e (omega (arith, fill-room, c.long)) in
        let a = sym (accepted_before x _) ∙ (rw m at c.fits) in
        record {
          long = rw length-set c.long;
          few = omega (arith, c.few, o.0);
          low = o.1;
          fits = a;
          on = sym (behind_before n x _ numbers fill-room a) ∙ (rw m at c.on);
        }

pub fill_done : (file lent numbers : List ℕ) (n at : ℕ) → Filling file lent numbers n at → length file ≤ at → numbers ≡ lent_of (read_of file (length lent)) lent
unfolding behind
fill_done file lent numbers n at c h =
    let z : n + 0 ≡ n = omega arith in
    sym (take-append-drop n numbers) ∙ (rw (left_end file (length lent) n at h, z) at c.on)
