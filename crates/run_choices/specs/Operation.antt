-- T8, T12, what bounds a run and what its rows leave 0, over the operation: for all numbers and lent rows. The theorems are `run_keeps`,
-- `run_enough` and `run_spares` in proofs/OfRuns.antt.
use Rattle.std.specs.Prelude.{ℕ, ◌+◌, ◌*◌, ◌<◌, ◌≤◌, ◌≡◌, ◌↔◌, true, false, List}
use Rattle.bit_row.specs.Row.{bit_at, bytes_for}
use Rattle.determine_side_effects.specs.graph_crate.Check.{Graph, graph_in, check_of, answer_of}
use Rattle.determine_side_effects.specs.graph_access_crate.Words.{option}
use Rattle.determine_side_effects.specs.facts_crate.Facts.{mark_count}
use Rattle.determine_side_effects.specs.Effects.{last_verdicts}
use Rattle.starts.specs.Starts.{StartsGood}
use Rattle.entry_graph.specs.Ordering.{entry_graph}
use Rattle.cycles.specs.Cycles.{OnCycle}
use Rattle.dynamic_entries.specs.Sorted.{on_cycle}
use Rattle.tree_shaking.specs.Own.{run_starts}
use Rattle.answer_rows.specs.declared.Row.{Row}
use Rattle.answer_rows.specs.Shown.{row_bytes}
use Rattle.dead_records.specs.Dead.{record_count}
use Rattle.run_rows.specs.Run.{Run}
use Rattle.run_parts.specs.Operation.{Rooms, done, enough, outcome_of, marks_after, row_after, dead_after}
use Rattle.closed_choices.specs.Choice.{Smallest, HasLine}
use Rattle.closed_choices.specs.Operation.{Spare}
use Rattle.std.specs.Prelude.{Ok}

-- What is known of a run over graph g:
-- the facts of its main part are the smallest closed choice that holds its own starts, which are good facts; it made at least one round, and at
-- most one more than there are modules, or with options bit 7 one more than twice as many; a module counts as on a cycle exactly if it is strongly
-- connected with another node of the graph of dynamic entries.
pub record RunKeeps (g : Graph) (r : Run) : Type 1 where
  pub smallest : Smallest g (run_starts g (last_verdicts g)) (HasLine r.main)
  pub starts_good : StartsGood g (run_starts g (last_verdicts g))
  pub rounds_made : 1 ≤ r.rounds
  pub rounds_few : r.rounds ≤ 2 * g.header.modules + 1
  pub rounds_few_without : option g 7 ≡ false → r.rounds ≤ g.header.modules + 1
  pub cycles : (m : ℕ) → (on_cycle g m ≡ true) ↔ OnCycle (entry_graph g).succs m

-- for every run that is not refused
abbrev pub EveryRunKeeps : Type 1
EveryRunKeeps = (numbers : List ℕ) (room : Rooms) (g : Graph) (r : Run) → outcome_of numbers room ≡ done g r → (g ≡ graph_in numbers) × RunKeeps g r

-- no 5 with enough room: accepted numbers, rows that are long enough, and twice six numbers for each mark, since a fact has at most one line
-- in each of two stages
abbrev pub EnoughRuns : Type 0
EnoughRuns =
    (numbers : List ℕ) (room : Rooms) → answer_of (check_of numbers) ≡ Ok tt → enough (graph_in numbers) room ≡ true
    → 12 * mark_count (graph_in numbers) ≤ room.lines → (r : Run) × (outcome_of numbers room ≡ done (graph_in numbers) r)

-- The rows of a run have nothing beside their answer: a spare bit of an answer row, a bit of the dead row behind the last import record and a mark
-- behind the last fact's are 0.
pub record RunSpares (g : Graph) (r : Run) : Type 0 where
  pub spare_bits : (row : Row) (lent : List ℕ) (j : ℕ) → j < 8 * row_bytes g row → Spare g row j → bit_at (row_after row (done g r) lent) j ≡ false
  pub spare_dead : (lent : List ℕ) (j : ℕ) → record_count g ≤ j → j < 8 * bytes_for (record_count g) → bit_at (dead_after (done g r) lent) j ≡ false
  pub spare_marks : (lent : List ℕ) (j : ℕ) → mark_count g ≤ j → bit_at (marks_after (done g r) lent) j ≡ false

abbrev pub EveryRunSpares : Type 0
EveryRunSpares = (numbers : List ℕ) (room : Rooms) (g : Graph) (r : Run) → outcome_of numbers room ≡ done g r → RunSpares g r
