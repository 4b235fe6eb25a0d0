-- What the judge answers (docs/OPERATIONS.md, Judge): the steps in their order. That exactly the keep records are passed is `judge_exactly` in
-- `judged_records`.
use Rattle.std.specs.Prelude.{ℕ, ◌/◌, ◌%◌, true, false, List, eqb, length}
use Rattle.determine_side_effects.specs.rows_crate.Walk.{got, fault}
use Rattle.determine_side_effects.specs.graph_crate.Check.{Graph, check_of}
use Rattle.determine_side_effects.specs.Effects.{last_verdicts}
use Rattle.determine_side_effects.specs.facts_crate.declared.Fact.{Fact}
use Rattle.keep_record.specs.declared.Line.{Line}
use Rattle.keep_record.specs.Lines.{has}
use Rattle.keep_record.specs.Held.{lines_of}
use Rattle.starts.specs.Starts.{starts_walk, starts_of}
use Rattle.line_judgement.specs.Stand.{stands, first_bad}
use Rattle.completeness.specs.Complete.{is_complete}
use Rattle.std.specs.Prelude.{Result, Ok, Err}
use Rattle.determine_side_effects.specs.refusal_crate.declared.Refusal.{Refusal}
use Rattle.determine_side_effects.specs.refusal_crate.declared.Refusal.TheVariants.{WrongLength, Unjustified}

-- a start or a consequence that has no line: 6 at the number of lines
unfoldable pub judged_whole : Graph → List Fact → List Line → Result Unit Refusal
judged_whole g starts lines = elim (is_complete g (last_verdicts g) (has g 0 lines) starts lines) [ true ↦ Ok tt | false ↦ Err (Unjustified (length lines)) ]

-- a line that is not in form, has a fact once more or is not justified: 6 there; `bad` is the first such line of n
unfoldable pub judged_at : Graph → List Fact → List ℕ → ℕ → ℕ → Result Unit Refusal
judged_at g starts row n bad = elim (eqb bad n) [ true ↦ judged_whole g starts (lines_of n row) | false ↦ Err (Unjustified bad) ]

unfoldable pub judged_lines : Graph → List Fact → List ℕ → Result Unit Refusal
judged_lines g starts row =
    judged_at g starts row (length row / 6) (first_bad (stands g (last_verdicts g) starts row) 0 (length row / 6))

-- the starts are refused as in a drain, by 4 or 3; then a record whose length is not in sixes, by 4 at that length
unfoldable pub judged_in : Graph → List ℕ → List ℕ → Result Unit Refusal
judged_in g starts row =
    elim (starts_walk g starts) [
      | Ok p ↦ elim (eqb (length row % 6) 0) [ true ↦ judged_lines g (starts_of starts) row | false ↦ Err (WrongLength (length row)) ]
      | Err why ↦ Err why
    ]

-- the refusals of the check come first
unfoldable pub judge_of : List ℕ → List ℕ → List ℕ → Result Unit Refusal
judge_of numbers starts row = elim (check_of numbers) [ got g q ↦ judged_in g starts row | fault why ↦ Err why ]
