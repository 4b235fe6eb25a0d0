-- How a drain ends: the outcome by its cases, and the answer and the rows of each.
use Prim.Native.Nat.{ℕ, ◌*◌, ◌-◌, ◌/◌, ◌%◌, ◌<◌, ◌≤◌}
use mathlib.Core.Path.{◌≡◌, refl, ap, ◌∙◌, sym}
use mathlib.Core.Bool.{Bool, true, false}
use mathlib.Core.List.{List, ◌++◌}
use native.Mathlib.Omega.{arith}
use borrow.Author.Tests.{lt-ltb, le-ltb, eq-eqb, leb-true}
use lib.Dec.{eqb, leb}
use lib.ListN.{length, get_or, replicate}
use Rattle.bit_row.specs.Row.{bytes_for}
use Rattle.determine_side_effects.specs.graph_crate.Check.{Graph, check_of, answer_of, graph_in}
use Rattle.determine_side_effects.specs.facts_crate.Facts.{mark_count}
use Rattle.determine_side_effects.specs.Effects.{last_verdicts}
use Rattle.determine_side_effects.proofs.Lists.{both}
use Rattle.keep_record.specs.declared.Line.{Line}
use Rattle.keep_record.specs.Lines.{written, elem, marks_of, marks_from}
use Rattle.keep_record.specs.Held.{lines_of}
use Rattle.keep_record.proofs.Rows.{lines-length}
use Rattle.worklist.specs.Drain.{drain_of}
use Rattle.starts.specs.Starts.{starts_fault, starts_walk, starts_of}
use Rattle.answer_rows.specs.declared.Row.TheVariants.{Modules, Statements, Used, External, Json, NamespaceReason}
use Rattle.answer_rows.specs.Shown.{bytes_of, shown_row, rows_enough}
use Rattle.answer_rows.specs.Together.{SixRows, six_rows, RowsShown}
use Rattle.answer_rows.proofs.Bytes.{whole_row_is}
use Rattle.rule_tables.proofs.Readying.{by_refusal, by_graph}
use Rattle.drain_parts.specs.Operation.{Rooms, Rows, rows, Outcome, before, short, done, worked, enough, outcome_in, outcome_of, answered, marks_after, record_after, row_after, Ends}
use Rattle.drain_parts.specs.Parts.{Worked}
use Rattle.std.specs.Prelude.{Result, Ok, Err}
use Rattle.determine_side_effects.specs.refusal_crate.declared.Refusal.{Refusal}
use Rattle.determine_side_effects.specs.refusal_crate.declared.Refusal.TheVariants.{NoRoom}
use Rattle.keep_record.specs.declared.Full.{Full}
use Rattle.keep_record.specs.Held.{no_room}

abbrev pub answer_rows : Rows → SixRows
answer_rows r = six_rows r.modules r.statements r.used r.external r.json r.reason

-- rooms that are enough: that of the marks, and those of the answer rows
pub fits : (g : Graph) (room : Rooms) → enough g room ≡ true
    → (bytes_for (mark_count g) ≤ room.marks)
    × (rows_enough g (record { modules = room.modules; statements = room.statements; used = room.used; external = room.external; json = room.json; reason = room.reason }) ≡ true)
unfolding enough
fits g room e = let a = both (leb (bytes_for (mark_count g)) room.marks) _ e in (leb-true (bytes_for (mark_count g)) room.marks a.0, a.1)

pub ends_same : (o q : Outcome) (r : Result ℕ Refusal) (lent after : Rows) → o ≡ q → Ends q r lent after → Ends o r lent after
ends_same o q r lent after e h = rw e h

-- a refusal before the work leaves every row
pub ends_before : (o : Outcome) (why : Refusal) (lent : Rows) → o ≡ before why → Ends o (Err why) lent lent
unfolding answered marks_after record_after row_after
ends_before o why lent e =
    ends_same o (before why) (Err why) lent lent e (record {
      answer = refl;
      marks_are = refl;
      record_is = refl;
      modules_are = refl;
      statements_are = refl;
      used_are = refl;
      external_are = refl;
      json_are = refl;
      reasons_are = refl;
    })

-- the outcome over an accepted graph, by the check of the starts and by the lengths
module _ (g : Graph) (starts : List ℕ) (room : Rooms) where
  abbrev pub by_room : Bool → Outcome
  by_room b = elim b [ true ↦ worked g (drain_of g (last_verdicts g) (starts_of starts)) room.lines | false ↦ before NoRoom ]

  abbrev by_walk : Result ℕ Refusal → Outcome
  by_walk w = elim w [ Ok p ↦ by_room (enough g room) | Err why ↦ before why ]

  pub outcome_walk : {w : Result ℕ Refusal} → starts_walk g starts ≡ w → outcome_in g starts room ≡ by_walk w
  unfolding outcome_in starts_walk
  outcome_walk e = go (eqb (length starts % 3) 0) refl (eqb (starts_fault g starts 0 (length starts / 3)) 0) refl ∙ ap by_walk e
    where
      go : (b : Bool) → eqb (length starts % 3) 0 ≡ b → (d : Bool) → eqb (starts_fault g starts 0 (length starts / 3)) 0 ≡ d → outcome_in g starts room ≡ by_walk (starts_walk g starts)
      go false p d q = rw (p, outcome_in, starts_walk)
      go true p false q = rw (p, q, outcome_in, starts_walk)
      go true p true q = rw (p, q, outcome_in, starts_walk)

  module _ (m : length starts % 3 ≡ 0) (z : starts_fault g starts 0 (length starts / 3) ≡ 0) where
    pub outcome_short : enough g room ≡ false → outcome_in g starts room ≡ before NoRoom
    unfolding outcome_in
    outcome_short e = rw (eq-eqb (length starts % 3) 0 m, eq-eqb (starts_fault g starts 0 (length starts / 3)) 0 z, e, outcome_in)

    pub outcome_work : enough g room ≡ true → outcome_in g starts room ≡ worked g (drain_of g (last_verdicts g) (starts_of starts)) room.lines
    unfolding outcome_in
    outcome_work e = rw (eq-eqb (length starts % 3) 0 m, eq-eqb (starts_fault g starts 0 (length starts / 3)) 0 z, e, outcome_in)

-- the outcome by the check's answer
module _ (numbers starts : List ℕ) (room : Rooms) where
  pub outcome_refused : {why : Refusal} → answer_of (check_of numbers) ≡ Err why → outcome_of numbers starts room ≡ before why
  unfolding outcome_of
  outcome_refused e = by_refusal numbers (λ g. outcome_in g starts room) before e

  pub outcome_accepted : answer_of (check_of numbers) ≡ Ok tt → outcome_of numbers starts room ≡ outcome_in (graph_in numbers) starts room
  unfolding outcome_of
  outcome_accepted e = by_graph numbers (λ g. outcome_in g starts room) before e

-- a record found short
pub ends_short : (g : Graph) (lines : List Line) (lent : Rows) (marks row : List ℕ) (r : Result ℕ Full) → Worked g lines lent.marks lent.lines marks row r → r ≡ no_room
    → Ends (worked g lines (length lent.lines)) (Err NoRoom) lent (rows marks row lent.modules lent.statements lent.used lent.external lent.json lent.reason)
unfolding worked answered marks_after record_after row_after
ends_short g lines lent marks row r w e =
    ends_same (worked g lines (length lent.lines)) short _ lent _ (rw (lt-ltb (length lent.lines) (6 * length lines) (w.too_long e).0, worked)) (record {
      answer = refl;
      marks_are = (w.too_long e).1;
      record_is = (w.too_long e).2;
      modules_are = refl;
      statements_are = refl;
      used_are = refl;
      external_are = refl;
      json_are = refl;
      reasons_are = refl;
    })

-- lines
module _ (g : Graph) (lines : List Line) (lent after : Rows) (r : Result ℕ Full) (w : Worked g lines lent.marks lent.lines after.marks after.lines r) (n : ℕ) (e : r ≡ Ok n)
    (long-marks : length after.marks ≡ length lent.marks) (long_row : length after.lines ≡ length lent.lines) where
  count_is : length lines ≡ n
  count_is = ap length (sym (w.holds n e).0) ∙ lines-length n after.lines

  done_is : worked g lines (length lent.lines) ≡ done g lines
  unfolding worked
  done_is =
      let h : 6 * length lines ≤ length lent.lines = omega (arith, (w.holds n e).1.room, count_is, long_row) in
      rw (le-ltb (length lent.lines) (6 * length lines) h, worked)

  marks_done : ((i : ℕ) → get_or after.marks i 0 < 256) → after.marks ≡ bytes_of (λ j. elem j (marks_of g lines)) (length lent.marks)
  unfolding marks_from
  marks_done small =
      whole_row_is (λ j. elem j (marks_of g lines)) after.marks small (λ j. (w.holds n e).1.marked j ∙ ap (λ ls. elem j (marks_of g ls)) (w.holds n e).0)
      ∙ ap (λ k. bytes_of (λ j. elem j (marks_of g lines)) k) long-marks

  record_done : after.lines ≡ written lines ++ replicate (length lent.lines - 6 * length lines) 0
  record_done =
      let k : length after.lines - 6 * n ≡ length lent.lines - 6 * length lines = omega (arith, long_row, count_is) in
      (w.holds n e).1.zero_behind ∙ ap (λ ls. written ls ++ replicate (length after.lines - 6 * n) 0) (w.holds n e).0 ∙ ap (λ j. written lines ++ replicate j 0) k

  pub ends_done : ((i : ℕ) → get_or after.marks i 0 < 256) → RowsShown g (lines_of n after.lines) (lines_of n after.lines) (answer_rows lent) (answer_rows after)
      → Ends (worked g lines (length lent.lines)) (Ok n) lent after
  unfolding answered marks_after record_after row_after
  ends_done small shown =
      let l = (w.holds n e).0 in
      ends_same (worked g lines (length lent.lines)) (done g lines) _ lent after done_is (record {
        answer = ap Ok (sym count_is);
        marks_are = marks_done small;
        record_is = record_done;
        modules_are = shown.modules_shown ∙ ap (λ ls. shown_row g Modules ls lent.modules) l;
        statements_are = shown.statements_shown ∙ ap (λ ls. shown_row g Statements ls lent.statements) l;
        used_are = shown.used_shown ∙ ap (λ ls. shown_row g Used ls lent.used) l;
        external_are = shown.external_shown ∙ ap (λ ls. shown_row g External ls lent.external) l;
        json_are = shown.json_shown ∙ ap (λ ls. shown_row g Json ls lent.json) l;
        reasons_are = shown.reason_shown ∙ ap (λ ls. shown_row g NamespaceReason ls lent.reason) l;
      })
