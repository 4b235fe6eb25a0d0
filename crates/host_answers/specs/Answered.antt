-- What a caller knows of a call at the C boundary whose answer has the number 0, from the contracts of `host` alone. The theorems are in
-- proofs/OfCalls.antt.
use Rattle.std.specs.Prelude.{ℕ, ◌*◌, ◌<◌, ◌≤◌, ◌≡◌, ◌↔◌, Bool, true, false, List, length, take, drop}
use Rattle.bit_row.specs.Row.{bit_at, bytes_for}
use Rattle.leb128.specs.Read.{all, read_of}
use Rattle.determine_side_effects.specs.graph_crate.Check.{Graph, graph_in, check_of, answer_of}
use Rattle.determine_side_effects.specs.Effects.{last_verdicts}
use Rattle.determine_side_effects.specs.facts_crate.Facts.{mark_count}
use Rattle.keep_record.specs.Held.{lines_of}
use Rattle.starts.specs.Starts.{starts_of}
use Rattle.answer_rows.specs.declared.Row.{Row}
use Rattle.answer_rows.specs.declared.Row.TheVariants.{Modules, Statements, Used, External, Json, NamespaceReason}
use Rattle.answer_rows.specs.Shown.{row_bytes}
use Rattle.drain_parts.specs.Operation.{Rows}
use Rattle.determine_side_effects.specs.graph_access_crate.Words.{option}
use Rattle.dead_records.specs.Dead.{record_count}
use Rattle.run_rows.specs.Run.{run_of}
use Rattle.run_choices.specs.DeadAtEnd.{DeadAtEnd}
use Rattle.settled_runs.specs.Choice.{SmallestSettled}
use Rattle.run_parts.specs.Operation.{Rows as RunRows}
use Rattle.judge_parts.specs.Operation.{judge_of}
use Rattle.run_starts.specs.Operation.{Rows as StartsRows}
use Rattle.tree_shaking.specs.Rounds.{final_entries}
use Rattle.tree_shaking.specs.Own.{run_starts}
use Rattle.own_starts.specs.Once.{triples}
use Rattle.closed_choices.specs.Choice.{HasLine, RowShows}
use Rattle.closed_choices.specs.Operation.{Spare}
use Rattle.judged_records.specs.Choice.{SmallestByRules}
use Rattle.judged_records.specs.Operation.{Passes}
use Rattle.rust_effects.specs.DetermineSideEffects.{SideEffects}
use Rattle.rust_run.specs.IncludeStatements.{Outcome, Returns}
use Rattle.rust_run.specs.Agreement.{AsRust}
use Rattle.rust_run.specs.Boundary.{RowsAgree}
use Rattle.rust_returns.specs.Following.{Choosing, Follows}
use Rattle.rust_returns.specs.Circle.{Circle}
use Rattle.answers.specs.declared.DrainAnswer.{DrainAnswer}
use Rattle.answers.specs.declared.ReadAnswer.{ReadAnswer}
use Rattle.answers.specs.declared.Refusal.{Refusal}
use Rattle.answers.specs.declared.RunAnswer.{RunAnswer}
use Rattle.answers.specs.Answers.{check_answer_of, judge_answer_of}
use Rattle.host.specs.Operations.{KeepRead, KeepEffects, KeepDrain, KeepRun, KeepStarts}
use Rattle.std.specs.Prelude.{Ok}

-- a file: its numbers are the first of those lent
pub record ReadAnswers (file lent : List ℕ) (a : ReadAnswer) (after : List ℕ) : Type 0 where
  pub numbers : List ℕ
  pub read : read_of file (length lent) ≡ all numbers
  pub count_is : a.count ≡ length numbers
  pub first : take a.count after ≡ numbers

abbrev pub EveryRead : Type 0
EveryRead = (file lent : List ℕ) (a : ReadAnswer) (after : List ℕ) → KeepRead file lent a after → a.number ≡ 0 → ReadAnswers file lent a after

-- a graph is accepted
abbrev pub EveryCheck : Type 0
EveryCheck = (numbers : List ℕ) → ((check_answer_of (answer_of (check_of numbers))).number ≡ 0) ↔ (answer_of (check_of numbers) ≡ Ok tt)

-- Demand 2: the verdicts that `keep_effects` gives are those that the Rust comes to before it includes statements, on every graph, and so those of every
-- outcome; the rows that `keep_run` gives are those of every outcome, where the options ask for no other rounds;
abbrev pub EveryEffects : Type 0
EveryEffects =
    (numbers lent : List ℕ) (a : Refusal) (after : List ℕ) → KeepEffects numbers lent a after → a.number ≡ 0
    → (w : List ℕ) → SideEffects (graph_in numbers) w → take (graph_in numbers).header.modules after ≡ w

abbrev pub EveryRun : Type 0
EveryRun =
    (numbers : List ℕ) (a : RunAnswer) (lent after : RunRows) → KeepRun numbers a lent after → a.number ≡ 0
    → AsRust (graph_in numbers) → (o : Outcome) → Returns (graph_in numbers) o → RowsAgree (graph_in numbers) o a.rounds a.entries after

-- and unless there is a circle, the Rust has one, whatever the hash orders.
abbrev pub EveryRunReturns : Type 0
EveryRunReturns =
    (numbers : List ℕ) (a : RunAnswer) (lent after : RunRows) → KeepRun numbers a lent after → a.number ≡ 0
    → AsRust (graph_in numbers) → (Circle (graph_in numbers) → ⊥) → (ch : Choosing (graph_in numbers))
    → (o : Outcome) × (r : Returns (graph_in numbers) o) × Follows (graph_in numbers) ch o r × RowsAgree (graph_in numbers) o a.rounds a.entries after

-- With options bit 6 the dead bits that `keep_run` gives are those of the end, so that no import of an entry that comes alive is dropped; without it they
-- are the Rust's, above.
abbrev pub EveryRunDeadAtEnd : Type 0
EveryRunDeadAtEnd =
    (numbers : List ℕ) (a : RunAnswer) (lent after : RunRows) → KeepRun numbers a lent after → a.number ≡ 0
    → option (graph_in numbers) 6 ≡ true → DeadAtEnd (graph_in numbers) (run_of (graph_in numbers)) after.dead

-- With options bit 7 the facts of the lines that `keep_run` leaves in the record, up to the runtime helpers, are with the live modules the smallest settled
-- choice; the row of final entries shows of which modules dynamic entries are live, unless splitting is off.
pub record RunSettles (g : Graph) (a : RunAnswer) (after : RunRows) : Type 1 where
  pub live : ℕ → Bool
  pub smallest : SmallestSettled g (HasLine (lines_of a.lines after.lines)) (λ m. live m ≡ true)
  pub entries_are : take a.entries after.entries ≡ final_entries g live

abbrev pub EveryRunSettles : Type 1
EveryRunSettles =
    (numbers : List ℕ) (a : RunAnswer) (lent after : RunRows) → KeepRun numbers a lent after → a.number ≡ 0
    → option (graph_in numbers) 7 ≡ true → RunSettles (graph_in numbers) a after

-- In the rows of a run nothing else is set: a bit that stands for nothing is 0, and behind its answer a row is as lent.
abbrev pub row_of_run : Row → RunRows → List ℕ
row_of_run Modules r = r.modules
row_of_run Statements r = r.statements
row_of_run Used r = r.used
row_of_run External r = r.external
row_of_run Json r = r.json
row_of_run NamespaceReason r = r.reason

pub record NothingElse (g : Graph) (a : RunAnswer) (lent after : RunRows) : Type 0 where
  pub spare_bits : (row : Row) (j : ℕ) → j < 8 * row_bytes g row → Spare g row j → bit_at (row_of_run row after) j ≡ false
  pub spare_dead : (j : ℕ) → record_count g ≤ j → j < 8 * bytes_for (record_count g) → bit_at after.dead j ≡ false
  pub spare_marks : (j : ℕ) → mark_count g ≤ j → bit_at after.marks j ≡ false
  pub behind : (row : Row) → drop (row_bytes g row) (row_of_run row after) ≡ drop (row_bytes g row) (row_of_run row lent)
  pub behind_dead : drop (bytes_for (record_count g)) after.dead ≡ drop (bytes_for (record_count g)) lent.dead
  pub behind_helpers : drop g.header.modules after.helpers ≡ drop g.header.modules lent.helpers
  pub behind_entries : drop a.entries after.entries ≡ drop a.entries lent.entries

abbrev pub EveryRunSpare : Type 0
EveryRunSpare = (numbers : List ℕ) (a : RunAnswer) (lent after : RunRows) → KeepRun numbers a lent after → a.number ≡ 0 → NothingElse (graph_in numbers) a lent after

-- Demand 3: `keep_judge` answers 0 exactly for the keep records of accepted numbers and good starts,
abbrev pub EveryJudge : Type 1
EveryJudge = (numbers starts row : List ℕ) → ((judge_answer_of (judge_of numbers starts row)).number ≡ 0) ↔ Passes numbers starts row

-- so for what `keep_drain` leaves in the record, where it lies whole, beside the same starts,
abbrev pub EveryDrainJudged : Type 0
EveryDrainJudged =
    (numbers starts : List ℕ) (a : DrainAnswer) (lent after : Rows) → KeepDrain numbers starts a lent after → a.number ≡ 0
    → (6 * a.lines ≤ length after.lines) × ((judge_answer_of (judge_of numbers starts (take (6 * a.lines) after.lines))).number ≡ 0)

-- and for the lines of the main stage that `keep_run` leaves there, beside the run's own starts, worked out from the graph,
abbrev pub EveryRunJudged : Type 0
EveryRunJudged =
    (numbers : List ℕ) (a : RunAnswer) (lent after : RunRows) → KeepRun numbers a lent after → a.number ≡ 0
    → (6 * a.lines ≤ length after.lines)
    × ((judge_answer_of (judge_of numbers (triples (run_starts (graph_in numbers) (last_verdicts (graph_in numbers)))) (take (6 * a.lines) after.lines))).number ≡ 0)

-- or beside those that `keep_starts` gives.
abbrev pub EveryStartsJudged : Type 0
EveryStartsJudged =
    (numbers : List ℕ) (a : RunAnswer) (lent after : RunRows) → KeepRun numbers a lent after → a.number ≡ 0
    → (b : ReadAnswer) (lent' after' : StartsRows) → KeepStarts numbers b lent' after' → b.number ≡ 0
    → (b.count ≤ length after'.starts)
    × ((judge_answer_of (judge_of numbers (take b.count after'.starts) (take (6 * a.lines) after.lines))).number ≡ 0)

-- The rows of a drain: the facts of the lines that the record holds are the smallest choice that holds the starts, each answer row shows what they give,
-- with its spare bits 0 and behind them as lent.
abbrev pub row_of_drain : Row → Rows → List ℕ
row_of_drain Modules r = r.modules
row_of_drain Statements r = r.statements
row_of_drain Used r = r.used
row_of_drain External r = r.external
row_of_drain Json r = r.json
row_of_drain NamespaceReason r = r.reason

pub record DrainAnswers (g : Graph) (starts : List ℕ) (a : DrainAnswer) (lent after : Rows) : Type 1 where
  pub smallest : SmallestByRules g (starts_of starts) (HasLine (lines_of a.lines after.lines))
  pub rows_show : (row : Row) → RowShows g row (HasLine (lines_of a.lines after.lines)) (row_of_drain row lent) (row_of_drain row after)
  pub spare_bits : (row : Row) (j : ℕ) → j < 8 * row_bytes g row → Spare g row j → bit_at (row_of_drain row after) j ≡ false

abbrev pub EveryDrain : Type 1
EveryDrain =
    (numbers starts : List ℕ) (a : DrainAnswer) (lent after : Rows) → KeepDrain numbers starts a lent after → a.number ≡ 0
    → DrainAnswers (graph_in numbers) starts a lent after
