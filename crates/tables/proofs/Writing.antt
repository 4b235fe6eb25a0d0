-- Words written into a section: it is cleared, or one word of it is written.
use Prim.Native.Nat.{ℕ, ◌+◌, ◌-◌, ◌<◌, ◌≤◌}
use mathlib.Core.Path.{◌≡◌, ◌∙◌, sym}
use mathlib.Core.Logic.{◌≢◌}
use mathlib.Core.List.{List}
use native.Mathlib.Decide.{ℕ_discrete, dec_lt}
use native.Mathlib.Omega.{arith}
use lib.ListN.{length, get_or, set, length-set, get_or-eq_default}
use lib.Seq.{get_or-set_same, get_or-set_other, ext_get_or}
use Rattle.graph_format.specs.declared.Header.{Header}
use Rattle.tables.specs.Layout.{sizes, start_of, section, Laid, Inside, Kept}
use Rattle.tables.proofs.Sections.{part_has, part_length, ends_inside, section-length, section_has, word_kept, kept_none, kept_set, laid_kept}

-- the words from `start` up to `at` are cleared
pub record Clearing (k : ℕ) (before after : List ℕ) (at : ℕ) : Type 0 where
  pub kept : Kept (get_or before k 0) before after
  pub begun : get_or before k 0 ≤ at
  pub low : at ≤ get_or before (k + 1) 0
  pub zero : (j : ℕ) → get_or before k 0 ≤ j → j < at → get_or after j 0 ≡ 0

module _ (k : ℕ) (before : List ℕ) (i : Inside k before) where
  pub clearing_start : Clearing k before before (get_or before k 0)
  clearing_start = record { kept = kept_none; begun = omega arith; low = i.up; zero = λ j a b. omega (arith, a, b) }

  pub clearing_step : (after : List ℕ) (at : ℕ) → Clearing k before after at → at < get_or before (k + 1) 0 → Clearing k before (set after at 0) (at + 1)
  clearing_step after at c l =
      record { kept = kept_set (get_or before k 0) at 0 c.begun c.kept; begun = omega (arith, c.begun); low = omega (arith, l); zero = λ j a b. go j a b (ℕ_discrete j at) }
    where
      go : (j : ℕ) → get_or before k 0 ≤ j → j < at + 1 → Dec (j ≡ at) → get_or (set after at 0) j 0 ≡ 0
      go j a b (yes e) = rw e (get_or-set_same after at 0 0 (omega (arith, l, i.ends, c.kept.same_length)))
      go j a b (no n) = get_or-set_other after at j 0 0 n ∙ c.zero j a (omega (arith, b, n))

  pub clearing_done : (after : List ℕ) (at : ℕ) → Clearing k before after at → get_or before (k + 1) 0 ≤ at → k + 1 < get_or before k 0 → (j : ℕ) → get_or (section k after) j 0 ≡ 0
  clearing_done after at c l f j = go (dec_lt j (get_or after (k + 1) 0 - get_or after k 0))
    where
      a : get_or after k 0 ≡ get_or before k 0
      a = word_kept c.kept k (omega (arith, f))

      b : get_or after (k + 1) 0 ≡ get_or before (k + 1) 0
      b = word_kept c.kept (k + 1) f

      go : Dec (j < get_or after (k + 1) 0 - get_or after k 0) → get_or (section k after) j 0 ≡ 0
      go (yes h) = part_has (get_or after k 0) (get_or after (k + 1) 0) after j h ∙ c.zero (get_or after k 0 + j) (omega (arith, a)) (omega (arith, h, a, b, l))
      go (no h) =
          let e = part_length (get_or after k 0) (get_or after (k + 1) 0) after (omega (arith, b, i.ends, c.kept.same_length)) in
          get_or-eq_default (section k after) 0 (omega (arith, h, e))

-- word i of section k is written
module _ {h : Header} {n : ℕ} {tables : List ℕ} (t : Laid h n tables) (k : ℕ) (l : k < n) (i x : ℕ) (b : i < get_or (sizes h) k 0) where
  written_kept : Kept (start_of h k) tables (set tables (start_of h k + i) x)
  written_kept = kept_set (start_of h k) (start_of h k + i) x (omega arith) kept_none

  pub written_laid : Laid h n (set tables (start_of h k + i) x)
  written_laid = laid_kept t k (omega (arith, l)) written_kept

  pub section-set : section k (set tables (start_of h k + i) x) ≡ set (section k tables) i x
  section-set = ext_get_or 0 _ _ (section-length written_laid k l ∙ sym (length-set (section k tables) i x ∙ section-length t k l)) each
    where
      each : (j : ℕ) → j < length (section k (set tables (start_of h k + i) x)) → get_or (section k (set tables (start_of h k + i) x)) j 0 ≡ get_or (set (section k tables) i x) j 0
      each j m =
          let s : j < get_or (sizes h) k 0 = omega (arith, m, section-length written_laid k l) in
          section_has written_laid k l j s ∙ go j s (ℕ_discrete j i)
        where
          go : (j : ℕ) → j < get_or (sizes h) k 0 → Dec (j ≡ i) → get_or (set tables (start_of h k + i) x) (start_of h k + j) 0 ≡ get_or (set (section k tables) i x) j 0
          go j s (yes e) =
              rw e
              (get_or-set_same tables (start_of h k + i) x 0 (omega (arith, b, ends_inside t k l)) ∙ sym (get_or-set_same (section k tables) i x 0 (omega (arith, b, section-length t k l))))
          go j s (no e) =
              let d : start_of h k + j ≢ start_of h k + i = λ z. e (omega (arith, z)) in
              get_or-set_other tables (start_of h k + i) (start_of h k + j) x 0 d ∙ sym (section_has t k l j s) ∙ sym (get_or-set_other (section k tables) i j x 0 e)
