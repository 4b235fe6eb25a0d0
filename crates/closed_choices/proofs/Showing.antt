-- T6: the answer rows show what the facts of the lines give, and nothing else.
use Prim.Native.Nat.{ℕ, ◌+◌, ◌*◌, ◌/◌, ◌%◌, ◌<◌, ◌≤◌}
use mathlib.Core.Path.{◌≡◌, refl, ap, ◌∙◌, sym}
use mathlib.Core.Bool.{Bool, true, false}
use mathlib.Core.List.{List, [], ◌++◌, append-nil}
use native.Mathlib.Omega.{arith}
use lib.Dec.{eqb}
use lib.ListN.{length, get_or, drop, get_or-append, get_or-eq_default}
use lib.Seq.{drop-append_seam}
use Rattle.bit_row.specs.Row.{bit_of, bit_at}
use Rattle.bit_row.proofs.Number.{bit_of_zero}
use Rattle.bit_row.proofs.Place.{bit_in_byte}
use Rattle.determine_side_effects.specs.graph_crate.Check.{Graph}
use Rattle.determine_side_effects.specs.facts_crate.declared.Fact.{Fact}
use Rattle.determine_side_effects.proofs.Lists.{some_found, some_holds}
use Rattle.keep_record.specs.declared.Line.{Line}
use Rattle.keep_record.specs.Lines.{elem}
use Rattle.worklist.specs.Drain.{fact_at}
use Rattle.answer_rows.specs.declared.Row.{Row}
use Rattle.answer_rows.specs.Shown.{shows, row_bytes, shown, byte_of, bytes_of, shown_row}
use Rattle.answer_rows.proofs.Bytes.{byte_bit}
use Rattle.answer_rows.proofs.Tabulated.{length-tabulate, get_d_tabulate}
use Rattle.closed_choices.specs.Choice.{HasLine, RowShows}
use Rattle.closed_choices.proofs.Handling.{no_line}

pub bytes_long : (p : ℕ → Bool) (n : ℕ) → length (bytes_of p n) ≡ n
unfolding bytes_of
bytes_long p n = length-tabulate (byte_of p) 0 n

module _ (p : ℕ → Bool) (n : ℕ) (rest : List ℕ) where
  byte_there : (i : ℕ) → i < n → get_or (bytes_of p n ++ rest) i 0 ≡ byte_of p i
  unfolding bytes_of
  byte_there i l =
      let h : i < length (bytes_of p n) = omega (arith, bytes_long p n) in
      let z : 0 + i ≡ i = omega arith in
      get_or-append (bytes_of p n) rest 0 i h ∙ get_d_tabulate (byte_of p) 0 n i 0 l ∙ ap (byte_of p) z

  bit_there : (j : ℕ) → j < 8 * n → bit_at (bytes_of p n ++ rest) j ≡ p j
  bit_there j l =
      let e : 8 * (j / 8) + j % 8 ≡ j = omega arith in
      let i : j / 8 < n = omega arith in
      let k : j % 8 < 8 = omega arith in
      ap (λ m. bit_at (bytes_of p n ++ rest) m) (sym e) ∙ bit_in_byte (bytes_of p n ++ rest) (j / 8) (j % 8) k
      ∙ ap (λ x. eqb (bit_of (j % 8) x) 1) (byte_there (j / 8) i) ∙ byte_bit p (j / 8) (j % 8) k ∙ ap p e

-- a row of such bytes, by its bits; behind a row every bit is 0
pub bit_of_bytes : (p : ℕ → Bool) (n j : ℕ) → j < 8 * n → bit_at (bytes_of p n) j ≡ p j
bit_of_bytes p n j l = ap (λ (row : List ℕ). bit_at row j) (sym (append-nil (bytes_of p n))) ∙ bit_there p n [] j l

pub bit_behind : (row : List ℕ) (j : ℕ) → 8 * length row ≤ j → bit_at row j ≡ false
unfolding bit_at
bit_behind row j l =
    let h : length row ≤ j / 8 = omega arith in
    rw (get_or-eq_default row 0 h, bit_of_zero (j % 8))

drop_bytes : (p : ℕ → Bool) (n : ℕ) (rest : List ℕ) → drop n (bytes_of p n ++ rest) ≡ rest
drop_bytes p n rest = ap (λ k. drop k (bytes_of p n ++ rest)) (sym (bytes_long p n)) ∙ drop-append_seam (bytes_of p n) rest

module _ (g : Graph) (row : Row) (lines : List Line) where
  -- bit j of the row is set exactly if some line shows it
  pub row_shows : (lent : List ℕ) (j : ℕ) → j < 8 * row_bytes g row → bit_at (shown_row g row lines lent) j ≡ shown g row lines j
  unfolding shown_row
  row_shows lent j l = bit_there (shown g row lines) (row_bytes g row) (drop (row_bytes g row) lent) j l

  shown_by : (j : ℕ) → shown g row lines j ≡ true → (f : Fact) × HasLine lines f × (elem j (shows g row f) ≡ true)
  unfolding shown fact_at
  shown_by j e =
      let s = some_found (λ l. elem j (shows g row l.fact)) no_line lines e in
      ((get_or lines s.0 no_line).fact, record { number = s.0; inside = s.1; is = refl }, s.2)

  shows_it : (j : ℕ) (f : Fact) → HasLine lines f → elem j (shows g row f) ≡ true → shown g row lines j ≡ true
  unfolding shown fact_at
  shows_it j f h e = some_holds (λ l. elem j (shows g row l.fact)) no_line lines h.number h.inside (rw h.is e)

  same_behind : (lent : List ℕ) → drop (row_bytes g row) (shown_row g row lines lent) ≡ drop (row_bytes g row) lent
  unfolding shown_row
  same_behind lent = drop_bytes (shown g row lines) (row_bytes g row) (drop (row_bytes g row) lent)

  pub rows_show : (lent : List ℕ) → RowShows g row (HasLine lines) lent (shown_row g row lines lent)
  rows_show lent =
      record {
        set-by = λ j l e. shown_by j (sym (row_shows lent j l) ∙ e);
        sets = λ j f l h e. row_shows lent j l ∙ shows_it j f h e;
        behind = same_behind lent;
      }
