-- What each operation at the C boundary answers and leaves, by its definition.
use Rattle.std.specs.Prelude.{ℕ, ◌≡◌, List, length}
use Rattle.leb128.specs.Read.{answer_of, read_of, lent_of}
use Rattle.determine_side_effects.specs.Operation.{effects_answer, effects_row}
use Rattle.drain_parts.specs.Operation.{Rows, rooms_of, outcome_of, answered, Ends}
use Rattle.run_parts.specs.Operation.{Rows as RunRows, rooms_of as run_rooms_of, outcome_of as run_outcome_of, answered as run_answered, Ends as RunEnds}
use Rattle.run_starts.specs.Operation.{Rows as StartsRows, rooms_of as starts_rooms_of, outcome_of as starts_outcome_of, answered as starts_answered, Ends as StartsEnd}
use Rattle.answers.specs.declared.DrainAnswer.{DrainAnswer}
use Rattle.answers.specs.declared.ReadAnswer.{ReadAnswer}
use Rattle.answers.specs.declared.Refusal.{Refusal}
use Rattle.answers.specs.declared.RunAnswer.{RunAnswer}
use Rattle.answers.specs.Answers.{read_answer_of, check_answer_of, drain_answer_of, run_answer_of, starts_answer_of}

pub record KeepRead (file lent : List ℕ) (answer : ReadAnswer) (numbers : List ℕ) : Type 0 where
  pub answers : answer ≡ read_answer_of (answer_of (read_of file (length lent)))
  pub leaves : numbers ≡ lent_of (read_of file (length lent)) lent

pub record KeepEffects (numbers lent : List ℕ) (answer : Refusal) (verdicts : List ℕ) : Type 0 where
  pub answers : answer ≡ check_answer_of (effects_answer numbers (length lent))
  pub leaves : verdicts ≡ effects_row numbers lent

pub record KeepDrain (numbers starts : List ℕ) (answer : DrainAnswer) (lent after : Rows) : Type 0 where
  pub answers : answer ≡ drain_answer_of (answered (outcome_of numbers starts (rooms_of lent)))
  pub leaves : Ends (outcome_of numbers starts (rooms_of lent)) (answered (outcome_of numbers starts (rooms_of lent))) lent after

pub record KeepRun (numbers : List ℕ) (answer : RunAnswer) (lent after : RunRows) : Type 0 where
  pub answers : answer ≡ run_answer_of (run_answered (run_outcome_of numbers (run_rooms_of lent)))
  pub leaves : RunEnds (run_outcome_of numbers (run_rooms_of lent)) (run_answered (run_outcome_of numbers (run_rooms_of lent))) lent after

pub record KeepStarts (numbers : List ℕ) (answer : ReadAnswer) (lent after : StartsRows) : Type 0 where
  pub answers : answer ≡ starts_answer_of (starts_answered (starts_outcome_of numbers (starts_rooms_of lent)))
  pub leaves : StartsEnd (starts_outcome_of numbers (starts_rooms_of lent)) (starts_answered (starts_outcome_of numbers (starts_rooms_of lent))) lent after
