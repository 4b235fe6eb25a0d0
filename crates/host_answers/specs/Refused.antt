-- Demand 1: what a caller knows of a call at the C boundary whose answer has another number than 0, from the contracts of `host` alone. The answer rows are
-- as they were lent. The theorems are in proofs/OfRefusals.antt.
use Rattle.std.specs.Prelude.{ℕ, ◌≡◌, List, length, replicate}
use Rattle.answer_rows.specs.declared.Row.{Row}
use Rattle.drain_parts.specs.Operation.{Rows}
use Rattle.run_parts.specs.Operation.{Rows as RunRows}
use Rattle.run_starts.specs.Operation.{Rows as StartsRows}
use Rattle.answers.specs.declared.DrainAnswer.{DrainAnswer}
use Rattle.answers.specs.declared.ReadAnswer.{ReadAnswer}
use Rattle.answers.specs.declared.Refusal.{Refusal}
use Rattle.answers.specs.declared.RunAnswer.{RunAnswer}
use Rattle.host.specs.Operations.{KeepRead, KeepEffects, KeepDrain, KeepRun, KeepStarts}
use Rattle.host_answers.specs.Answered.{row_of_run, row_of_drain}

abbrev pub EveryReadRefused : Type 0
EveryReadRefused = (file lent : List ℕ) (a : ReadAnswer) (after : List ℕ) → KeepRead file lent a after → (a.number ≡ 0 → ⊥) → after ≡ lent

abbrev pub EveryEffectsRefused : Type 0
EveryEffectsRefused = (numbers lent : List ℕ) (a : Refusal) (after : List ℕ) → KeepEffects numbers lent a after → (a.number ≡ 0 → ⊥) → after ≡ lent

-- Marks and record are as lent; or, where the record, or the row of starts, was found short during the work, the refusal is 5 and they are 0
-- (docs/OPERATIONS.md, Answers and refusals).
pub data WorkedOn (number : ℕ) (marks lines marks' lines' : List ℕ) : Type 0 where
  untouched : marks' ≡ marks → lines' ≡ lines → WorkedOn number marks lines marks' lines'
  cleared : number ≡ 5 → marks' ≡ replicate (length marks) 0 → lines' ≡ replicate (length lines) 0 → WorkedOn number marks lines marks' lines'

pub record DrainRefuses (a : DrainAnswer) (lent after : Rows) : Type 0 where
  pub rows_as_lent : (row : Row) → row_of_drain row after ≡ row_of_drain row lent
  pub worked_on : WorkedOn a.number lent.marks lent.lines after.marks after.lines

abbrev pub EveryDrainRefused : Type 0
EveryDrainRefused =
    (numbers starts : List ℕ) (a : DrainAnswer) (lent after : Rows) → KeepDrain numbers starts a lent after → (a.number ≡ 0 → ⊥) → DrainRefuses a lent after

pub record RunRefuses (a : RunAnswer) (lent after : RunRows) : Type 0 where
  pub rows_as_lent : (row : Row) → row_of_run row after ≡ row_of_run row lent
  pub dead_as_lent : after.dead ≡ lent.dead
  pub helpers_as_lent : after.helpers ≡ lent.helpers
  pub entries_as_lent : after.entries ≡ lent.entries
  pub worked_on : WorkedOn a.number lent.marks lent.lines after.marks after.lines

abbrev pub EveryRunRefused : Type 0
EveryRunRefused = (numbers : List ℕ) (a : RunAnswer) (lent after : RunRows) → KeepRun numbers a lent after → (a.number ≡ 0 → ⊥) → RunRefuses a lent after

pub record StartsRefuse (a : ReadAnswer) (lent after : StartsRows) : Type 0 where
  pub starts_as_lent : after.starts ≡ lent.starts
  pub worked_on : WorkedOn a.number lent.marks lent.lines after.marks after.lines

abbrev pub EveryStartsRefused : Type 0
EveryStartsRefused = (numbers : List ℕ) (a : ReadAnswer) (lent after : StartsRows) → KeepStarts numbers a lent after → (a.number ≡ 0 → ⊥) → StartsRefuse a lent after
