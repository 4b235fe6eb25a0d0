-- What a run answers, and every lent row afterwards (docs/OPERATIONS.md, Run; docs/RULES.md, Step 6, says what is as before the runtime
-- stage).
use Rattle.std.specs.Prelude.{ℕ, ◌*◌, ◌-◌, ◌≡◌, Bool, true, false, ◌&&◌, List, ◌++◌, ltb, leb, length, replicate}
use Rattle.bit_row.specs.Row.{bytes_for}
use Rattle.determine_side_effects.specs.rows_crate.Walk.{got, fault}
use Rattle.determine_side_effects.specs.graph_crate.Check.{Graph, check_of}
use Rattle.determine_side_effects.specs.facts_crate.Facts.{mark_count}
use Rattle.keep_record.specs.declared.Line.{Line}
use Rattle.keep_record.specs.Lines.{written, marks_from, elem}
use Rattle.answer_rows.specs.declared.Row.{Row}
use Rattle.answer_rows.specs.declared.Row.TheVariants.{Modules, Statements, Used, External, Json, NamespaceReason}
use Rattle.answer_rows.specs.Shown.{bytes_of, shown_row, rows_enough}
use Rattle.tree_shaking.specs.Rounds.{final_entries}
use Rattle.run_parts.specs.declared.Totals.{Totals}
use Rattle.dead_records.specs.Dead.{record_count, dead_row}
use Rattle.run_rows.specs.Run.{Run, run_of, helpers_row, entries_row}
use Rattle.std.specs.Prelude.{Result, Ok, Err}
use Rattle.determine_side_effects.specs.refusal_crate.declared.Refusal.{Refusal}
use Rattle.determine_side_effects.specs.refusal_crate.declared.Refusal.TheVariants.{NoRoom}

-- the eleven lent rows
pub record Rows : Type 0 where
  pub marks : List ℕ
  pub lines : List ℕ
  pub modules : List ℕ
  pub statements : List ℕ
  pub used : List ℕ
  pub external : List ℕ
  pub json : List ℕ
  pub reason : List ℕ
  pub dead : List ℕ
  pub helpers : List ℕ
  pub entries : List ℕ

abbrev pub rows : List ℕ → List ℕ → List ℕ → List ℕ → List ℕ → List ℕ → List ℕ → List ℕ → List ℕ → List ℕ → List ℕ → Rows
rows marks lines modules statements used external json reason dead helpers entries =
    record {
      marks = marks;
      lines = lines;
      modules = modules;
      statements = statements;
      used = used;
      external = external;
      json = json;
      reason = reason;
      dead = dead;
      helpers = helpers;
      entries = entries;
    }

-- their lengths
pub record Rooms : Type 0 where
  pub marks : ℕ
  pub lines : ℕ
  pub modules : ℕ
  pub statements : ℕ
  pub used : ℕ
  pub external : ℕ
  pub json : ℕ
  pub reason : ℕ
  pub dead : ℕ
  pub helpers : ℕ
  pub entries : ℕ

unfoldable pub rooms_of : Rows → Rooms
rooms_of r =
    record {
      marks = length r.marks;
      lines = length r.lines;
      modules = length r.modules;
      statements = length r.statements;
      used = length r.used;
      external = length r.external;
      json = length r.json;
      reason = length r.reason;
      dead = length r.dead;
      helpers = length r.helpers;
      entries = length r.entries;
    }

-- marks and answer rows are long enough: the six that a drain has too, and those that only a run has, dead bits, helper words, entries
unfoldable pub enough : Graph → Rooms → Bool
enough g room =
    leb (bytes_for (mark_count g)) room.marks
    && (rows_enough g (record { modules = room.modules; statements = room.statements; used = room.used; external = room.external; json = room.json; reason = room.reason })
    && (leb (bytes_for (record_count g)) room.dead && (leb g.header.modules room.helpers && leb g.header.entries room.entries)))

-- how a run ends: refused before the work, with a record found short during the work, or with an answer
pub data Outcome : Type 0 where
  before : Refusal → Outcome
  short : Outcome
  done : Graph → Run → Outcome

-- the work: short if the lent numbers are fewer than six for each line of both stages
unfoldable pub worked : Graph → Run → ℕ → Outcome
worked g r room = elim (ltb room (6 * length r.lines)) [ true ↦ short | false ↦ done g r ]

unfoldable pub outcome_in : Graph → Rooms → Outcome
outcome_in g room = elim (enough g room) [ true ↦ worked g (run_of g) room.lines | false ↦ before NoRoom ]

-- "Drain and run: as check, .. then 5"
unfoldable pub outcome_of : List ℕ → Rooms → Outcome
outcome_of numbers room = elim (check_of numbers) [ got g q ↦ outcome_in g room | fault why ↦ before why ]

-- what a run comes to: rounds, lines of the main part, lines of the runtime stage, final entries
abbrev pub totals_of : Graph → Run → Totals
totals_of g r =
    record {
      rounds = r.rounds;
      lines = length r.main;
      runtime_lines = length r.lines - length r.main;
      entries = length (final_entries g r.live);
    }

-- the answer: that, or a refusal's number and place
unfoldable pub answered : Outcome → Result Totals Refusal
answered (before why) = Err why
answered short = Err NoRoom
answered (done g r) = Ok (totals_of g r)

-- the marks: as the runtime stage leaves them, in a row that is cleared whole
unfoldable pub marks_after : Outcome → List ℕ → List ℕ
marks_after (before why) lent = lent
marks_after short lent = replicate (length lent) 0
marks_after (done g r) lent = bytes_of (λ j. elem j (marks_from g (length r.main) r.lines)) (length lent)

-- the record: the lines of both stages, and zero behind them
unfoldable pub record_after : Outcome → List ℕ → List ℕ
record_after (before why) lent = lent
record_after short lent = replicate (length lent) 0
record_after (done g r) lent = written r.lines ++ replicate (length lent - 6 * length r.lines) 0

-- an answer row: after the runtime stage, or, for Json and REASON, as before it; untouched by a refusal
abbrev pub lines_for : Row → Run → List Line
lines_for Modules r = r.lines
lines_for Statements r = r.lines
lines_for Used r = r.lines
lines_for External r = r.lines
lines_for Json r = r.main
lines_for NamespaceReason r = r.main

unfoldable pub row_after : Row → Outcome → List ℕ → List ℕ
row_after row (before why) lent = lent
row_after row short lent = lent
row_after row (done g r) lent = shown_row g row (lines_for row r) lent

unfoldable pub dead_after : Outcome → List ℕ → List ℕ
dead_after (before why) lent = lent
dead_after short lent = lent
dead_after (done g r) lent = dead_row g r.main r.live r.dead lent

unfoldable pub helpers_after : Outcome → List ℕ → List ℕ
helpers_after (before why) lent = lent
helpers_after short lent = lent
helpers_after (done g r) lent = helpers_row g r.main lent

unfoldable pub entries_after : Outcome → List ℕ → List ℕ
entries_after (before why) lent = lent
entries_after short lent = lent
entries_after (done g r) lent = entries_row g r.live lent

-- an answer and the rows after it are those of an outcome, where `lent` were the rows before
pub record Ends (o : Outcome) (r : Result Totals Refusal) (lent after : Rows) : Type 0 where
  pub answer : r ≡ answered o
  pub marks_are : after.marks ≡ marks_after o lent.marks
  pub record_is : after.lines ≡ record_after o lent.lines
  pub modules_are : after.modules ≡ row_after Modules o lent.modules
  pub statements_are : after.statements ≡ row_after Statements o lent.statements
  pub used_are : after.used ≡ row_after Used o lent.used
  pub external_are : after.external ≡ row_after External o lent.external
  pub json_are : after.json ≡ row_after Json o lent.json
  pub reasons_are : after.reason ≡ row_after NamespaceReason o lent.reason
  pub dead_are : after.dead ≡ dead_after o lent.dead
  pub helpers_are : after.helpers ≡ helpers_after o lent.helpers
  pub entries_are : after.entries ≡ entries_after o lent.entries

-- the run of these numbers ends so
abbrev pub Runs : List ℕ → Result Totals Refusal → Rows → Rows → Type 0
Runs numbers r lent after = Ends (outcome_of numbers (rooms_of lent)) r lent after
