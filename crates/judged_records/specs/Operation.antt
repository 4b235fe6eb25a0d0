-- T9 and T10 over the operations, for all numbers, starts, records and lent rows, and T5 and T8 by the rules. The theorems are `judge_exactly`,
-- `drain_passes`, `run_passes`, `smallest_by_rules`, `drain_smallest` and `run_smallest` in proofs/OfOperations.antt.
use Rattle.std.specs.Prelude.{ℕ, ◌*◌, ◌/◌, ◌%◌, ◌≡◌, ◌↔◌, List, length, take}
use Rattle.determine_side_effects.specs.graph_crate.Check.{Graph, graph_in, check_of, answer_of}
use Rattle.determine_side_effects.specs.Effects.{last_verdicts}
use Rattle.determine_side_effects.specs.facts_crate.declared.Fact.{Fact}
use Rattle.keep_record.specs.declared.Line.{Line}
use Rattle.starts.specs.Starts.{starts_walk, starts_of, StartsGood}
use Rattle.drain_parts.specs.Operation.{Rooms, done, outcome_of, record_after}
use Rattle.tree_shaking.specs.Own.{run_starts}
use Rattle.run_rows.specs.Run.{Run}
use Rattle.run_parts.specs.Operation.{Rooms as RunRooms, done as run_done, outcome_of as run_outcome_of, record_after as run_record_after}
use Rattle.own_starts.specs.Once.{once, triples}
use Rattle.judge_parts.specs.Operation.{judge_of}
use Rattle.closed_choices.specs.Choice.{Choice, Smallest, HasLine}
use Rattle.judged_records.specs.Choice.{SmallestByRules}
use Rattle.judged_records.specs.Sentence.{IsKeepRecord}
use Rattle.std.specs.Prelude.{Ok}

-- T9: the judge passes exactly these: numbers that are accepted, starts that are not refused, and a keep record of them
pub record Passes (numbers starts row : List ℕ) : Type 1 where
  pub accepted : answer_of (check_of numbers) ≡ Ok tt
  pub starts_good : starts_walk (graph_in numbers) starts ≡ Ok 0
  pub is_record : IsKeepRecord (graph_in numbers) (starts_of starts) row

abbrev pub JudgesExactly : Type 1
JudgesExactly = (numbers starts row : List ℕ) → (judge_of numbers starts row ≡ Ok tt) ↔ Passes numbers starts row

-- T5 and T8 by the rules. For accepted numbers and good starts the two notions of a smallest choice are one,
abbrev pub SmallestBoth : Type 1
SmallestBoth =
    (numbers : List ℕ) → answer_of (check_of numbers) ≡ Ok tt → (starts : List Fact) → StartsGood (graph_in numbers) starts → (C : Choice)
    → Smallest (graph_in numbers) starts C ↔ SmallestByRules (graph_in numbers) starts C

-- so the facts of a drain's lines, and those of a run's main stage, are the smallest choice by the rules that holds their starts
abbrev pub EveryDrainSmallest : Type 1
EveryDrainSmallest =
    (numbers starts : List ℕ) (room : Rooms) (g : Graph) (lines : List Line) → outcome_of numbers starts room ≡ done g lines
    → SmallestByRules g (starts_of starts) (HasLine lines)

abbrev pub EveryRunSmallest : Type 1
EveryRunSmallest =
    (numbers : List ℕ) (room : RunRooms) (g : Graph) (r : Run) → run_outcome_of numbers room ≡ run_done g r
    → SmallestByRules g (run_starts g (last_verdicts g)) (HasLine r.main)

-- T10: the lines that a drain leaves in any lent record, beside the same numbers and starts
abbrev pub EveryDrainPasses : Type 0
EveryDrainPasses =
    (numbers starts : List ℕ) (room : Rooms) (g : Graph) (lines : List Line) → outcome_of numbers starts room ≡ done g lines
    → (lent : List ℕ) → judge_of numbers starts (take (6 * length lines) (record_after (done g lines) lent)) ≡ Ok tt

-- the lines of a run up to the runtime helpers, beside the same numbers and that run's own starts as triples, each once; or as they were
-- started, with repeats
abbrev pub EveryRunPasses : Type 0
EveryRunPasses =
    (numbers : List ℕ) (room : RunRooms) (g : Graph) (r : Run) → run_outcome_of numbers room ≡ run_done g r → (lent : List ℕ)
    → (judge_of numbers (triples (once g (run_starts g (last_verdicts g)))) (take (6 * length r.main) (run_record_after (run_done g r) lent)) ≡ Ok tt)
    × (judge_of numbers (triples (run_starts g (last_verdicts g))) (take (6 * length r.main) (run_record_after (run_done g r) lent)) ≡ Ok tt)
