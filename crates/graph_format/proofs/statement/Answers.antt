use mathlib.Core.Path.{◌∙◌, sym}
use Rattle.graph_format.proofs.Chains.{lists_go, lists_stop, lists_one}
use Rattle.graph_format.proofs.Modules.{statement_go, statement_stop}
use Rattle.rows.specs.Walk.{plain_row, columns_of, row_of}
use Rattle.graph_format.specs.Format.{statement_lists}
use Rattle.rows.proofs.refusal_crate.Exits.{passed_on}
use Rattle.graph_format.proofs.statement.Goals as goal

pub returns-in_err-a : goal.returns-in_err-a
unfolding plain_row columns_of
returns-in_err-a c = passed_on _ _ c.from_residual.ensures.1 ∙ (sym (statement_stop _ _ _ _ _ (sym c.row.ensures ∙ c.in_err-a.was)))

pub returns-in_err-b : goal.returns-in_err-b
unfolding plain_row columns_of row_of statement_lists
returns-in_err-b c = passed_on _ _ c.from_residual-in_err-b.ensures.1 ∙ (sym (statement_go _ _ _ _ _ (sym c.row.ensures ∙ c.in_ok-a.was) ∙ lists_stop _ _ _ _ (sym c.rows.ensures ∙ c.in_err-b.was)))

pub returns : goal.returns
unfolding plain_row columns_of row_of statement_lists
returns c = c.reference_list.ensures ∙ sym (statement_go _ _ _ _ _ (sym c.row.ensures ∙ c.in_ok-a.was) ∙ lists_go _ _ _ _ (sym c.rows.ensures ∙ c.in_ok-b.was) ∙ lists_one _ _ _)
