-- The loop that writes the layout.
use Prim.Native.Nat.{ℕ, ◌+◌, ◌<◌, ◌≤◌}
use mathlib.Core.Path.{◌≡◌, refl, ap, ◌∙◌, sym}
use mathlib.Core.List.{List}
use native.Mathlib.Numerals.{add-one}
use native.Mathlib.Omega.{arith}
use borrow.Author.Count.{below_more}
use lib.ListN.{length, get_or, set, length-set}
use lib.Seq.{get_or-set_same, get_or-set_other}
use Rattle.tables.specs.Layout.{start_from}
use Rattle.tables.proofs.Sections.{from_next}

module _ (counts before : List ℕ) where
  -- k words are written, and the next section begins at `at`
  pub record Laying (tables : List ℕ) (at k : ℕ) : Type 0 where
    pub few : k ≤ 10
    pub same_length : length tables ≡ length before
    pub sum : at ≡ start_from 11 counts k
    pub starts : (i : ℕ) → i < k → get_or tables i 0 ≡ start_from 11 counts i

  pub laying_start : Laying before 11 0
  unfolding start_from
  laying_start = record { few = omega arith; same_length = refl; sum = refl; starts = λ i l. absurd (omega arith) }

  module _ (tables : List ℕ) (at k : ℕ) (p : Laying tables at k) (long : 11 ≤ length before) where
    one_more : (i : ℕ) → i < k + 1 → get_or (set tables k at) i 0 ≡ start_from 11 counts i
    one_more =
        below_more (λ i. get_or (set tables k at) i 0 ≡ start_from 11 counts i) k
        (λ i l. get_or-set_other tables k i at 0 (λ e. omega (arith, e, l)) ∙ p.starts i l)
        (get_or-set_same tables k at 0 (omega (arith, p.few, p.same_length, long)) ∙ p.sum)

    pub laying-step : k < 10 → Laying (set tables k at) (at + get_or counts k 0) (k + 1)
    laying-step l =
        record {
          few = omega (arith, l);
          same_length = length-set tables k at ∙ p.same_length;
          sum = ap (λ n. n + get_or counts k 0) p.sum ∙ sym (from_next 11 counts k) ∙ ap (start_from 11 counts) (sym (add-one k));
          starts = one_more;
        }

    pub laying-end : 10 ≤ k → (i : ℕ) → i ≤ 10 → get_or (set tables 10 at) i 0 ≡ start_from 11 counts i
    laying-end l i b = let z : k ≡ 10 = omega (arith, l, p.few) in rw z at (one_more i (omega (arith, b, z)))
