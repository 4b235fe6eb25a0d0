-- The loop of `count`: what is left, with the numbers that were counted, is the whole answer.
-- An accepted count allows the pass that writes (`counted`); a refusal leaves the lent numbers (`kept`).
use Prim.Native.Nat.{ℕ, ◌+◌, ◌<◌, ◌≤◌}
use mathlib.Core.Path.{◌≡◌, refl, ap, ◌∙◌, sym}
use mathlib.Core.Bool.{true}
use mathlib.Core.List.{List}
use native.Mathlib.Omega.{arith}
use lib.ListN.{length, drop}
use Rattle.std.specs.Prelude.{Some, None, Result, Ok, Err}
use Rattle.refusal.specs.declared.Refusal.{Refusal}
use Rattle.refusal.specs.declared.Refusal.TheVariants.{NoNumber, NoRoom}
use Rattle.leb128.specs.Read.{Decoded, all, refused, before, read_of, answer_of, lent_of}
use Rattle.leb128.specs.Number.{number_of, accepted}
use Rattle.leb128.proofs.Turn.{left, left_start, left_end, left_bad, left-full, left-more, onward}

-- an answer, n numbers having been counted before
unfoldable pub plus : ℕ → Decoded → Result ℕ Refusal
plus n (all xs) = Ok (n + length xs)
plus n (refused why) = Err why

plus_before : (n x : ℕ) (d : Decoded) → plus n (before x d) ≡ plus (n + 1) d
unfolding plus before
plus_before n x (all xs) = ap Ok (omega arith)
plus_before n x (refused why) = refl

plus_none : (d : Decoded) → plus 0 d ≡ answer_of d
unfolding plus answer_of
plus_none (all xs) = ap Ok (omega arith)
plus_none (refused why) = refl

pub record Counting (file : List ℕ) (room n at : ℕ) : Type 0 where
  pub few : n ≤ at
  pub low : at ≤ length file
  pub on : plus n (left file room n at) ≡ answer_of (read_of file room)

pub count_start : (file : List ℕ) (room : ℕ) → Counting file room 0 0
count_start file room = record { few = omega arith; low = omega arith; on = rw (left_start file room) (plus_none _) }

module _ (file : List ℕ) (room n at : ℕ) (c : Counting file room n at) (h : at < length file) where
  pub count_bad : number_of at (drop at file) ≡ None → Err (NoNumber at) ≡ answer_of (read_of file room)
  unfolding plus
  count_bad e = rw (left_bad _ room _ _ c.few h e) at c.on

  pub count_full : (x next : ℕ) → number_of at (drop at file) ≡ Some (x, next) → room ≤ n → Err NoRoom ≡ answer_of (read_of file room)
  unfolding plus
  count_full x next e r = rw (left-full _ _ _ _ c.few h _ _ e r) at c.on

  pub count_more : (x next : ℕ) → number_of at (drop at file) ≡ Some (x, next) → n < room → Counting file room (n + 1) next
  count_more x next e r =
      let o = onward file room n at c.few h x next e in
      record {
        few = omega (arith, c.few, o.0);
        low = o.1;
        on = sym (plus_before n x _) ∙ (rw (left-more _ _ _ _ c.few h _ _ e r) at c.on);
      }

pub count_done : (file : List ℕ) (room n at : ℕ) → Counting file room n at → length file ≤ at → Ok n ≡ answer_of (read_of file room)
unfolding plus
count_done file room n at c h = let z : n + 0 ≡ n = omega arith in rw (left_end file room n at h, z) at c.on

-- `Ok` says that nothing was refused, and a refusal that the lent numbers are to stay
pub counted : (d : Decoded) (n : ℕ) → answer_of d ≡ Ok n → accepted d ≡ true
unfolding answer_of accepted
counted (all xs) n e = refl
counted (refused why) n e = absurd cc

pub kept : (d : Decoded) (why : Refusal) (lent : List ℕ) → answer_of d ≡ Err why → lent ≡ lent_of d lent
unfolding answer_of lent_of
kept (all xs) why lent e = absurd cc
kept (refused w) why lent e = refl
