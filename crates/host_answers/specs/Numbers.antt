-- The numbers of refusals (docs/OPERATIONS.md): which each operation may give. None is 0, so the number 0 at the C boundary means that the call was
-- not refused. The theorem is `numbered` in proofs/Numbered.antt.
use Rattle.std.specs.Prelude.{ℕ, ◌≤◌, ◌≡◌, ◌⊎◌, List}
use Rattle.leb128.specs.Read.{refused, read_of}
use Rattle.determine_side_effects.specs.rows_crate.Walk.{fault}
use Rattle.determine_side_effects.specs.graph_crate.Check.{check_of}
use Rattle.determine_side_effects.specs.Operation.{effects_answer}
use Rattle.drain_parts.specs.Operation.{Rooms, outcome_of, answered}
use Rattle.run_parts.specs.Operation.{Rooms as RunRooms, outcome_of as run_outcome_of, answered as run_answered}
use Rattle.judge_parts.specs.Operation.{judge_of}
use Rattle.run_starts.specs.Operation.{Rooms as StartsRooms, outcome_of as starts_outcome_of, answered as starts_answered}
use Rattle.std.specs.Prelude.{Err}
use Rattle.determine_side_effects.specs.refusal_crate.declared.Refusal.{Refusal}
use Rattle.determine_side_effects.specs.refusal_crate.Number.{number_of}

-- from one number to another
pub record OneOf (low high n : ℕ) : Type 0 where
  pub least : low ≤ n
  pub most : n ≤ high

-- the numbers of each operation's refusals
pub record Numbered : Type 0 where
  pub of_read : (file : List ℕ) (room : ℕ) (why : Refusal) → read_of file room ≡ refused why → (number_of why ≡ 1) ⊎ (number_of why ≡ 5)
  pub of_check : (numbers : List ℕ) (why : Refusal) → check_of numbers ≡ fault why → OneOf 2 4 (number_of why)
  pub of_effects : (numbers : List ℕ) (room : ℕ) (why : Refusal) → effects_answer numbers room ≡ Err why → OneOf 2 5 (number_of why)
  pub of_drain : (numbers starts : List ℕ) (room : Rooms) (why : Refusal) → answered (outcome_of numbers starts room) ≡ Err why → OneOf 2 5 (number_of why)
  pub of_run : (numbers : List ℕ) (room : RunRooms) (why : Refusal) → run_answered (run_outcome_of numbers room) ≡ Err why → OneOf 2 5 (number_of why)
  pub of_judge : (numbers starts row : List ℕ) (why : Refusal) → judge_of numbers starts row ≡ Err why → OneOf 2 4 (number_of why) ⊎ (number_of why ≡ 6)
  pub of_starts : (numbers : List ℕ) (room : StartsRooms) (why : Refusal) → starts_answered (starts_outcome_of numbers room) ≡ Err why → OneOf 2 5 (number_of why)
