-- How a run ends by what its parts answer: the answer and the rows of each outcome.
use Prim.Native.Nat.{ℕ, ◌*◌, ◌-◌, ◌<◌, ◌≤◌}
use mathlib.Core.Path.{◌≡◌, refl, ap, ◌∙◌, sym}
use mathlib.Core.Bool.{true}
use mathlib.Core.List.{List, ◌++◌}
use native.Mathlib.Omega.{arith}
use borrow.Author.Tests.{lt-ltb, le-ltb}
use lib.ListN.{length, get_or, replicate}
use Rattle.bit_row.specs.Row.{bytes_for}
use Rattle.determine_side_effects.specs.graph_crate.Check.{Graph, graph_in}
use Rattle.determine_side_effects.specs.facts_crate.Facts.{mark_count}
use Rattle.keep_record.specs.Lines.{written, elem, marks_from}
use Rattle.keep_record.specs.Held.{lines_of}
use Rattle.keep_record.proofs.Rows.{lines-length}
use Rattle.answer_rows.specs.declared.Row.TheVariants.{Modules, Statements, Used, External, Json, NamespaceReason}
use Rattle.answer_rows.specs.Shown.{bytes_of, shown_row, rows_enough}
use Rattle.answer_rows.specs.Together.{lengths_of, RowsShown}
use Rattle.answer_rows.proofs.Bytes.{whole_row_is}
use Rattle.tree_shaking.specs.declared.Reached.{Reached}
use Rattle.run_rows.specs.Run.{run_of}
use Rattle.run_parts.specs.declared.Lengths.{Lengths}
use Rattle.run_parts.specs.declared.Part.TheVariants.{Whole}
use Rattle.run_parts.specs.declared.Totals.{Totals}
use Rattle.run_parts.specs.Operation.{Rows, rooms_of, short, done, worked, enough, outcome_of, totals_of, answered, marks_after, record_after, row_after, dead_after, helpers_after, entries_after, Ends}
use Rattle.run_parts.specs.Parts.{room_for, MayBegin, WorkEnds, Holds, RowsFit, RunShown}
use Rattle.run_parts.proofs.Ending.{six_of, fits, ends_before, ends_same}
use Rattle.std.specs.Prelude.{Result, Ok, Err}
use Rattle.determine_side_effects.specs.refusal_crate.declared.Refusal.{Refusal}
use Rattle.determine_side_effects.specs.refusal_crate.declared.Refusal.TheVariants.{NoRoom}
use Rattle.keep_record.specs.declared.Full.{Full}
use Rattle.keep_record.specs.Held.{no_room}

-- the lengths of marks and answer rows
abbrev pub all_lengths : Rows → Lengths
all_lengths lent =
    record {
      marks = length lent.marks;
      modules = length lent.modules;
      statements = length lent.statements;
      used = length lent.used;
      external = length lent.external;
      json = length lent.json;
      reason = length lent.reason;
      dead = length lent.dead;
      helpers = length lent.helpers;
      entries = length lent.entries;
    }

-- the rows as lent, but for marks and record
abbrev pub works_on : Rows → List ℕ → List ℕ → Rows
works_on lent marks row =
    record {
      marks = marks;
      lines = row;
      modules = lent.modules;
      statements = lent.statements;
      used = lent.used;
      external = lent.external;
      json = lent.json;
      reason = lent.reason;
      dead = lent.dead;
      helpers = lent.helpers;
      entries = lent.entries;
    }

-- a record found short
module _ (g : Graph) (lent : Rows) (marks row plan : List ℕ) (r : Result Reached Full) (w : WorkEnds g Whole lent.marks lent.lines marks row plan r) (e : r ≡ no_room) where
  short_is : worked g (run_of g) (length lent.lines) ≡ short
  unfolding worked
  short_is = rw (lt-ltb (length lent.lines) (6 * length (run_of g).lines) (w.too_long e).0, worked)

  ended_short : Ends short (Err NoRoom) lent (works_on lent marks row)
  unfolding answered marks_after record_after row_after dead_after helpers_after entries_after
  ended_short =
      record {
        answer = refl;
        marks_are = (w.too_long e).1;
        record_is = (w.too_long e).2;
        modules_are = refl;
        statements_are = refl;
        used_are = refl;
        external_are = refl;
        json_are = refl;
        reasons_are = refl;
        dead_are = refl;
        helpers_are = refl;
        entries_are = refl;
      }

  pub ends_short : Ends (worked g (run_of g) (length lent.lines)) (Err NoRoom) lent (works_on lent marks row)
  ends_short = ends_same _ short _ _ _ short_is ended_short

-- lines
module _ (g : Graph) (lent after : Rows) (plan : List ℕ) (x : Reached) (h : Holds g Whole after.marks after.lines plan x)
    (long-marks : length after.marks ≡ length lent.marks) (long_row : length after.lines ≡ length lent.lines) where
  main_is : x.main ≡ length (run_of g).main
  main_is = sym (lines-length x.main after.lines) ∙ ap length h.main_lines

  total_is : x.total ≡ length (run_of g).lines
  total_is = sym (lines-length x.total after.lines) ∙ ap length h.all_lines

  done_is : worked g (run_of g) (length lent.lines) ≡ done g (run_of g)
  unfolding worked
  done_is =
      let l : 6 * length (run_of g).lines ≤ length lent.lines = omega (arith, h.held.room, total_is, long_row) in
      rw (le-ltb (length lent.lines) (6 * length (run_of g).lines) l, worked)

  marks_done : ((i : ℕ) → get_or after.marks i 0 < 256) → after.marks ≡ bytes_of (λ j. elem j (marks_from g (length (run_of g).main) (run_of g).lines)) (length lent.marks)
  marks_done small =
      whole_row_is (λ j. elem j (marks_from g (length (run_of g).main) (run_of g).lines)) after.marks small
      (λ j. h.held.marked j ∙ ap (λ ls. elem j (marks_from g x.main ls)) h.all_lines ∙ ap (λ k. elem j (marks_from g k (run_of g).lines)) main_is)
      ∙ ap (λ k. bytes_of (λ j. elem j (marks_from g (length (run_of g).main) (run_of g).lines)) k) long-marks

  record_done : after.lines ≡ written (run_of g).lines ++ replicate (length lent.lines - 6 * length (run_of g).lines) 0
  record_done =
      let k : length after.lines - 6 * x.total ≡ length lent.lines - 6 * length (run_of g).lines = omega (arith, long_row, total_is) in
      h.held.zero_behind ∙ ap (λ ls. written ls ++ replicate (length after.lines - 6 * x.total) 0) h.all_lines ∙ ap (λ j. written (run_of g).lines ++ replicate j 0) k

  module _ (small : (i : ℕ) → get_or after.marks i 0 < 256)
      (shown : RowsShown g (lines_of x.main after.lines) (lines_of x.total after.lines) (six_of lent) (six_of after))
      (count : ℕ) (only : RunShown g lent.dead lent.helpers lent.entries after.dead after.helpers after.entries count) where
    abbrev totals : Totals
    totals = record { rounds = x.rounds; lines = x.main; runtime_lines = x.total - x.main; entries = count }

    totals-are : totals ≡ totals_of g (run_of g)
    totals-are =
        let d : x.total - x.main ≡ length (run_of g).lines - length (run_of g).main = omega (arith, main_is, total_is) in
        λ i. record { rounds = h.rounds_are i; lines = main_is i; runtime_lines = d i; entries = only.counted i }

    ended-done : Ends (done g (run_of g)) (Ok totals) lent after
    unfolding answered marks_after record_after row_after dead_after helpers_after entries_after
    ended-done =
        let all = h.all_lines in
        let first = h.main_lines in
        record {
          answer = ap Ok totals-are;
          marks_are = marks_done small;
          record_is = record_done;
          modules_are = shown.modules_shown ∙ ap (λ ls. shown_row g Modules ls lent.modules) all;
          statements_are = shown.statements_shown ∙ ap (λ ls. shown_row g Statements ls lent.statements) all;
          used_are = shown.used_shown ∙ ap (λ ls. shown_row g Used ls lent.used) all;
          external_are = shown.external_shown ∙ ap (λ ls. shown_row g External ls lent.external) all;
          json_are = shown.json_shown ∙ ap (λ ls. shown_row g Json ls lent.json) first;
          reasons_are = shown.reason_shown ∙ ap (λ ls. shown_row g NamespaceReason ls lent.reason) first;
          dead_are = only.dead_shown;
          helpers_are = only.helpers_shown;
          entries_are = only.entries_shown;
        }

    pub ends_done : Ends (worked g (run_of g) (length lent.lines)) (Ok totals) lent after
    ends_done = ends_same _ (done g (run_of g)) _ _ _ done_is ended-done

-- whether it may begin, and the run by what that says
module _ (numbers tables : List ℕ) (r : Result Unit Refusal) (lent : Rows) (begins : MayBegin numbers (all_lengths lent) tables r) where
  rooms_are : rooms_of lent ≡ room_for (length lent.lines) (all_lengths lent)
  unfolding rooms_of
  rooms_are = refl

  pub begins_fits : r ≡ Ok tt
      → (bytes_for (mark_count (graph_in numbers)) ≤ length lent.marks) × (rows_enough (graph_in numbers) (lengths_of (six_of lent)) ≡ true) × RowsFit (graph_in numbers) (length lent.dead) (length lent.helpers) (length lent.entries)
  begins_fits e = fits (graph_in numbers) lent (ap (λ w. enough (graph_in numbers) w) rooms_are ∙ begins.fits e (length lent.lines))

  pub ends_refused : {why : Refusal} → r ≡ Err why → Ends (outcome_of numbers (rooms_of lent)) (Err why) lent lent
  ends_refused {why} e = ends_before _ why lent (ap (λ w. outcome_of numbers w) rooms_are ∙ begins.refused why e (length lent.lines))

  pub ends_worked : r ≡ Ok tt → {q : Result Totals Refusal} {after : Rows} → Ends (worked (graph_in numbers) (run_of (graph_in numbers)) (length lent.lines)) q lent after → Ends (outcome_of numbers (rooms_of lent)) q lent after
  ends_worked e {q} {after} w = ends_same _ _ q lent after (ap (λ w. outcome_of numbers w) rooms_are ∙ begins.goes e (length lent.lines)) w
