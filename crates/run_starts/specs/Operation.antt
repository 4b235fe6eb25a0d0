-- A run's own starts as an operation: what it answers, and every lent row afterwards (docs/OPERATIONS.md, Starts of a run). Refusals are those of a
-- check, then 5 for marks, record or starts that are too short.
use Rattle.std.specs.Prelude.{ℕ, ◌*◌, ◌-◌, ◌≡◌, true, false, List, ◌++◌, ltb, leb, length, take, drop, replicate}
use Rattle.bit_row.specs.Row.{bytes_for}
use Rattle.facts.specs.rows_crate.Walk.{got, fault}
use Rattle.facts.specs.graph_crate.Check.{Graph, check_of}
use Rattle.facts.specs.Facts.{mark_count}
use Rattle.facts.specs.declared.Fact.{Fact}
use Rattle.keep_record.specs.Lines.{written, elem, marks_of}
use Rattle.answer_rows.specs.Shown.{bytes_of}
use Rattle.tree_shaking.specs.Own.{starts_by_kind}
use Rattle.run_rows.specs.Run.{run_of}
use Rattle.own_starts.specs.Once.{once, triples}
use Rattle.std.specs.Prelude.{Result, Ok, Err}
use Rattle.facts.specs.refusal_crate.declared.Refusal.{Refusal}
use Rattle.facts.specs.refusal_crate.declared.Refusal.TheVariants.{NoRoom}

-- The starts as they are given: by kind, of the run of the graph, each once. That they are `run_starts` without repeats, which the steps define, is
-- `starts_given` in `judged_starts`.
unfoldable pub own_by_kind : Graph → List Fact
own_by_kind g = starts_by_kind g (run_of g).live (take (run_of g).taken (run_of g).main)

unfoldable pub own_starts_once : Graph → List Fact
own_starts_once g = once g (own_by_kind g)

-- how it ends: refused before the work, with a record or starts found short during the work, or with the starts of the graph's run
pub data Outcome : Type 0 where
  before : Refusal → Outcome
  short : Outcome
  done : Graph → Outcome

-- the lengths of the lent rows
pub record Rooms : Type 0 where
  pub marks : ℕ
  pub lines : ℕ
  pub starts : ℕ

-- the work: short if fewer numbers are lent than six for each line of the run's main part, or than three for each start
unfoldable pub worked : Graph → ℕ → ℕ → Outcome
worked g lines starts =
    elim (ltb lines (6 * length (run_of g).main)) [
      | true ↦ short
      | false ↦ elim (ltb starts (3 * length (own_starts_once g))) [ true ↦ short | false ↦ done g ]
    ]

unfoldable pub outcome_in : Graph → Rooms → Outcome
outcome_in g room = elim (leb (bytes_for (mark_count g)) room.marks) [ true ↦ worked g room.lines room.starts | false ↦ before NoRoom ]

unfoldable pub outcome_of : List ℕ → Rooms → Outcome
outcome_of numbers room = elim (check_of numbers) [ got g q ↦ outcome_in g room | fault why ↦ before why ]

-- the answer: a refusal's number and place, or how many numbers the starts have
unfoldable pub answered : Outcome → Result ℕ Refusal
answered (before why) = Err why
answered short = Err NoRoom
answered (done g) = Ok (3 * length (own_starts_once g))

-- marks and record: as the run's main part leaves them; zero where record or starts were found short
unfoldable pub marks_after : Outcome → List ℕ → List ℕ
marks_after (before why) lent = lent
marks_after short lent = replicate (length lent) 0
marks_after (done g) lent = bytes_of (λ j. elem j (marks_of g (run_of g).main)) (length lent)

unfoldable pub record_after : Outcome → List ℕ → List ℕ
record_after (before why) lent = lent
record_after short lent = replicate (length lent) 0
record_after (done g) lent = written (run_of g).main ++ replicate (length lent - 6 * length (run_of g).main) 0

-- the starts as triples, and behind them as lent; untouched by a refusal
unfoldable pub starts_after : Outcome → List ℕ → List ℕ
starts_after (before why) lent = lent
starts_after short lent = lent
starts_after (done g) lent = triples (own_starts_once g) ++ drop (3 * length (own_starts_once g)) lent

-- the three lent rows
pub record Rows : Type 0 where
  pub marks : List ℕ
  pub lines : List ℕ
  pub starts : List ℕ

abbrev pub rows : List ℕ → List ℕ → List ℕ → Rows
rows marks lines starts = record { marks = marks; lines = lines; starts = starts }

unfoldable pub rooms_of : Rows → Rooms
rooms_of r = record { marks = length r.marks; lines = length r.lines; starts = length r.starts }

-- an answer and the rows after it are those of an outcome, where `lent` were the rows before
pub record Ends (o : Outcome) (r : Result ℕ Refusal) (lent after : Rows) : Type 0 where
  pub answer : r ≡ answered o
  pub marks_are : after.marks ≡ marks_after o lent.marks
  pub record_is : after.lines ≡ record_after o lent.lines
  pub starts_are : after.starts ≡ starts_after o lent.starts

abbrev pub ReadsStarts : List ℕ → Result ℕ Refusal → Rows → Rows → Type 0
ReadsStarts numbers r lent after = Ends (outcome_of numbers (rooms_of lent)) r lent after
