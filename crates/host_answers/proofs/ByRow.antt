-- The answer rows after a drain and a run, each by the row's name.
use mathlib.Core.Path.{◌≡◌}
use Rattle.answer_rows.specs.declared.Row.{Row}
use Rattle.answer_rows.specs.declared.Row.TheVariants.{Modules, Statements, Used, External, Json, NamespaceReason}
use Rattle.drain_parts.specs.Operation as drain
use Rattle.run_parts.specs.Operation as run
use Rattle.host_answers.specs.Answered.{row_of_run, row_of_drain}
use Rattle.std.specs.Prelude.{ℕ, Result}
use Rattle.run_parts.specs.declared.Totals.{Totals}
use Rattle.determine_side_effects.specs.refusal_crate.declared.Refusal.{Refusal}

pub row_of_run_lem : {o : run.Outcome} {r : Result Totals Refusal} {lent after : run.Rows} → run.Ends o r lent after → (row : Row) → row_of_run row after ≡ run.row_after row o (row_of_run row lent)
row_of_run_lem e Modules = e.modules_are
row_of_run_lem e Statements = e.statements_are
row_of_run_lem e Used = e.used_are
row_of_run_lem e External = e.external_are
row_of_run_lem e Json = e.json_are
row_of_run_lem e NamespaceReason = e.reasons_are

pub row_of_drain_lem : {o : drain.Outcome} {r : Result ℕ Refusal} {lent after : drain.Rows} → drain.Ends o r lent after → (row : Row) → row_of_drain row after ≡ drain.row_after row o (row_of_drain row lent)
row_of_drain_lem e Modules = e.modules_are
row_of_drain_lem e Statements = e.statements_are
row_of_drain_lem e Used = e.used_are
row_of_drain_lem e External = e.external_are
row_of_drain_lem e Json = e.json_are
row_of_drain_lem e NamespaceReason = e.reasons_are
