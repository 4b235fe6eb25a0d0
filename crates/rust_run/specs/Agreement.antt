-- T11: where the Rust returns on an accepted graph, its outcome is what a run answers. The theorems are in proofs/OfRuns.antt.
use Rattle.std.specs.Prelude.{◌≡◌, ℕ, ◌+◌, ◌*◌, ◌<◌, ◌≤◌, true, false, ◌⊎◌, ◌↔◌, List, length}
use Rattle.determine_side_effects.specs.graph_crate.Check.{Graph, graph_in, check_of, answer_of}
use Rattle.determine_side_effects.specs.graph_access_crate.Names.{owner, import_records}
use Rattle.determine_side_effects.specs.graph_access_crate.Words.{symbol_of, module_of, option}
use Rattle.determine_side_effects.specs.facts_crate.Facts.{module_fact, statement_fact, mark_count}
use Rattle.determine_side_effects.specs.Effects.{last_verdicts}
use Rattle.keep_record.specs.Lines.{has}
use Rattle.answer_rows.specs.declared.Row.TheVariants.{Used, External, Json}
use Rattle.closed_choices.specs.Choice.{HasLine}
use Rattle.dynamic_entries.specs.Alive.{records_before}
use Rattle.passes.specs.Helpers.{helper_word}
use Rattle.tree_shaking.specs.Rounds.{final_entries}
use Rattle.dead_records.specs.Dead.{is_dead_record}
use Rattle.run_rows.specs.Run.{Run, run_of}
use Rattle.run_parts.specs.Operation.{Rooms, outcome_of, done, enough}
use Rattle.rust_values.specs.Values.{pair, In}
use Rattle.rust_engine.specs.EntryPoints.{ShownBy, ReasonBy}
use Rattle.rust_run.specs.IncludeStatements.{Outcome, Returns}
use Rattle.std.specs.Prelude.{Ok}

-- The verdicts are the last ones. Modules, statements, used and external symbols are those of both stages' lines; json and namespace reasons those of the main part's; the dead
-- records, the helper words, the final entries in their order and the number of rounds are the run's.
pub record Agrees (g : Graph) (o : Outcome) (r : Run) : Type 0 where
  pub verdicts_are : o.verdicts ≡ last_verdicts g
  pub rounds_are : o.rounds ≡ r.rounds
  pub entries_are : o.entries ≡ final_entries g r.live
  pub modules_are : (m : ℕ) → In m o.context.modules ↔ HasLine r.lines (module_fact m)
  pub statements_are : (m i : ℕ) → In (pair m i) o.context.statements ↔ HasLine r.lines (statement_fact m i)
  pub used_are : (s : ℕ) → In s o.context.used ↔ ShownBy g (HasLine r.lines) Used s
  pub external_are : (s : ℕ) → In s o.context.external ↔ ShownBy g (HasLine r.lines) External s
  pub json_are : (m s : ℕ) → In (pair m s) o.main.json ↔ ((m ≡ owner (symbol_of g s)) × ShownBy g (HasLine r.main) Json s)
  pub reasons_are : (m b : ℕ) → In (pair m b) o.main.reasons ↔ ReasonBy g (HasLine r.main) m b
  pub dead_are : (m k : ℕ) → m < g.header.modules → k < length (import_records (module_of g m)) → In (pair m k) o.dead ↔ (is_dead_record g r.dead (records_before g.modules m + k) ≡ true)
  pub helpers_are : (m : ℕ) → m < g.header.modules → o.helpers m ≡ helper_word g (has g 0 r.main) m

-- The options ask for no other rounds than the Rust's, which knows no bit 7. Bit 6 it does not know either, and only the dead records depend on that one.
pub record AsRust (g : Graph) : Type 0 where
  pub no_settling : option g 7 ≡ false

-- T11, for all numbers, with no other hypothesis than that they are accepted, ask for no other rounds, and that the Rust returns
abbrev pub RustAgrees : Type 0
RustAgrees =
    (numbers : List ℕ) → answer_of (check_of numbers) ≡ Ok tt → AsRust (graph_in numbers)
    → (o : Outcome) → Returns (graph_in numbers) o → Agrees (graph_in numbers) o (run_of (graph_in numbers))

-- the same over the operation: for every run that is not refused
abbrev pub EveryRunAgrees : Type 0
EveryRunAgrees =
    (numbers : List ℕ) (room : Rooms) (g : Graph) (r : Run) → outcome_of numbers room ≡ done g r → AsRust g → (o : Outcome) → Returns g o → Agrees g o r

-- and a run answers on every accepted graph, with rows that are long enough, whether the Rust returns or not
abbrev pub RunAnswers : Type 0
RunAnswers =
    (numbers : List ℕ) (room : Rooms) → answer_of (check_of numbers) ≡ Ok tt → enough (graph_in numbers) room ≡ true
    → 12 * mark_count (graph_in numbers) ≤ room.lines → outcome_of numbers room ≡ done (graph_in numbers) (run_of (graph_in numbers))
