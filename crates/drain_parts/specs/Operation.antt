-- What a drain answers, and every lent row afterwards (docs/OPERATIONS.md, Drain).
use Rattle.std.specs.Prelude.{ℕ, ◌*◌, ◌-◌, ◌/◌, ◌%◌, ◌≡◌, Bool, true, false, ◌&&◌, List, ◌++◌, eqb, ltb, leb, length, replicate}
use Rattle.bit_row.specs.Row.{bytes_for}
use Rattle.determine_side_effects.specs.rows_crate.Walk.{got, fault}
use Rattle.determine_side_effects.specs.graph_crate.Check.{Graph, check_of}
use Rattle.determine_side_effects.specs.Effects.{last_verdicts}
use Rattle.determine_side_effects.specs.facts_crate.Facts.{mark_count}
use Rattle.keep_record.specs.declared.Line.{Line}
use Rattle.keep_record.specs.Lines.{written, marks_of, elem}
use Rattle.worklist.specs.Drain.{drain_of}
use Rattle.answer_rows.specs.declared.Row.{Row}
use Rattle.answer_rows.specs.declared.Row.TheVariants.{Modules, Statements, Used, External, Json, NamespaceReason}
use Rattle.answer_rows.specs.Shown.{bytes_of, shown_row, rows_enough}
use Rattle.starts.specs.Starts.{starts_fault, starts_of}
use Rattle.std.specs.Prelude.{Result, Ok, Err}
use Rattle.determine_side_effects.specs.refusal_crate.declared.Refusal.{Refusal}
use Rattle.determine_side_effects.specs.refusal_crate.declared.Refusal.TheVariants.{OutOfRange, WrongLength, NoRoom}

-- the lengths of the lent rows
pub record Rooms : Type 0 where
  pub marks : ℕ
  pub lines : ℕ
  pub modules : ℕ
  pub statements : ℕ
  pub used : ℕ
  pub external : ℕ
  pub json : ℕ
  pub reason : ℕ

-- the marks and the answer rows are long enough
unfoldable pub enough : Graph → Rooms → Bool
enough g room =
    leb (bytes_for (mark_count g)) room.marks
    && rows_enough g (record { modules = room.modules; statements = room.statements; used = room.used; external = room.external; json = room.json; reason = room.reason })

-- how a drain ends: refused before the work, with a record found short during the work, or with lines
pub data Outcome : Type 0 where
  before : Refusal → Outcome
  short : Outcome
  done : Graph → List Line → Outcome

-- the work: short if the lent numbers are fewer than the lines' six each
unfoldable pub worked : Graph → List Line → ℕ → Outcome
worked g lines room = elim (ltb room (6 * length lines)) [ true ↦ short | false ↦ done g lines ]

-- as check, then the starts, then the lengths, then the work
unfoldable pub outcome_in : Graph → List ℕ → Rooms → Outcome
outcome_in g starts room =
    elim (eqb (length starts % 3) 0) [
      | true ↦ elim (eqb (starts_fault g starts 0 (length starts / 3)) 0) [
        | true ↦ elim (enough g room) [ true ↦ worked g (drain_of g (last_verdicts g) (starts_of starts)) room.lines | false ↦ before NoRoom ]
        | false ↦ before (OutOfRange (starts_fault g starts 0 (length starts / 3) - 1))
      ]
      | false ↦ before (WrongLength (length starts))
    ]

-- "Drain and run: as check, then for a drain 4 at their length and 3, then 5"
unfoldable pub outcome_of : List ℕ → List ℕ → Rooms → Outcome
outcome_of numbers starts room = elim (check_of numbers) [ got g q ↦ outcome_in g starts room | fault why ↦ before why ]

-- the answer: a refusal's number and place, or how many lines there are
unfoldable pub answered : Outcome → Result ℕ Refusal
answered (before why) = Err why
answered short = Err NoRoom
answered (done g lines) = Ok (length lines)

-- the marks: those of the lines, in a row that is cleared whole
unfoldable pub marks_after : Outcome → List ℕ → List ℕ
marks_after (before why) lent = lent
marks_after short lent = replicate (length lent) 0
marks_after (done g lines) lent = bytes_of (λ j. elem j (marks_of g lines)) (length lent)

-- the record: the lines, and zero behind them
unfoldable pub record_after : Outcome → List ℕ → List ℕ
record_after (before why) lent = lent
record_after short lent = replicate (length lent) 0
record_after (done g lines) lent = written lines ++ replicate (length lent - 6 * length lines) 0

-- an answer row: what the lines show, and behind it as lent; untouched by a refusal
unfoldable pub row_after : Row → Outcome → List ℕ → List ℕ
row_after row (before why) lent = lent
row_after row short lent = lent
row_after row (done g lines) lent = shown_row g row lines lent

-- the eight lent rows
pub record Rows : Type 0 where
  pub marks : List ℕ
  pub lines : List ℕ
  pub modules : List ℕ
  pub statements : List ℕ
  pub used : List ℕ
  pub external : List ℕ
  pub json : List ℕ
  pub reason : List ℕ

-- their lengths
unfoldable pub rooms_of : Rows → Rooms
rooms_of r =
    record {
      marks = length r.marks;
      lines = length r.lines;
      modules = length r.modules;
      statements = length r.statements;
      used = length r.used;
      external = length r.external;
      json = length r.json;
      reason = length r.reason;
    }

abbrev pub rows : List ℕ → List ℕ → List ℕ → List ℕ → List ℕ → List ℕ → List ℕ → List ℕ → Rows
rows marks lines modules statements used external json reason =
    record { marks = marks; lines = lines; modules = modules; statements = statements; used = used; external = external; json = json; reason = reason }

-- an answer and the rows after it are those of an outcome, where `lent` were the rows before
pub record Ends (o : Outcome) (r : Result ℕ Refusal) (lent after : Rows) : Type 0 where
  pub answer : r ≡ answered o
  pub marks_are : after.marks ≡ marks_after o lent.marks
  pub record_is : after.lines ≡ record_after o lent.lines
  pub modules_are : after.modules ≡ row_after Modules o lent.modules
  pub statements_are : after.statements ≡ row_after Statements o lent.statements
  pub used_are : after.used ≡ row_after Used o lent.used
  pub external_are : after.external ≡ row_after External o lent.external
  pub json_are : after.json ≡ row_after Json o lent.json
  pub reasons_are : after.reason ≡ row_after NamespaceReason o lent.reason

-- the drain of these numbers and starts ends so
abbrev pub Drains : List ℕ → List ℕ → Result ℕ Refusal → Rows → Rows → Type 0
Drains numbers starts r lent after = Ends (outcome_of numbers starts (rooms_of lent)) r lent after
