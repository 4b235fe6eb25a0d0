use mathlib.Core.Path.{◌∙◌, sym}
use Rattle.graph_format.proofs.Chains.{lists_go, lists_stop, lists_one}
use Rattle.rows.specs.Walk.{columns_of, row_of}
use Rattle.graph_format.specs.Format.{name_lists}
use Rattle.rows.proofs.refusal_crate.Exits.{passed_on}
use Rattle.graph_format.proofs.name_lists.Goals as goal

pub returns-in_err-a : goal.returns-in_err-a
unfolding row_of columns_of name_lists
returns-in_err-a c = passed_on _ _ c.from_residual.ensures.1 ∙ (sym (lists_stop _ _ _ _ (sym c.rows.ensures ∙ c.in_err-a.was)))

pub returns-in_err-b : goal.returns-in_err-b
unfolding row_of columns_of name_lists
returns-in_err-b c = passed_on _ _ c.from_residual-in_err-b.ensures.1 ∙ (sym (lists_go _ _ _ _ (sym c.rows.ensures ∙ c.in_ok-a.was) ∙ lists_stop _ _ _ _ (sym c.rows-2.ensures ∙ c.in_err-b.was)))

pub returns-in_err-c : goal.returns-in_err-c
unfolding row_of columns_of name_lists
returns-in_err-c c = passed_on _ _ c.from_residual-in_err-c.ensures.1 ∙ (sym (lists_go _ _ _ _ (sym c.rows.ensures ∙ c.in_ok-a.was) ∙ lists_go _ _ _ _ (sym c.rows-2.ensures ∙ c.in_ok-b.was) ∙ lists_stop _ _ _ _ (sym c.rows-3.ensures ∙ c.in_err-c.was)))

pub returns : goal.returns
unfolding row_of columns_of name_lists
returns c = c.rows-4.ensures ∙ sym (lists_go _ _ _ _ (sym c.rows.ensures ∙ c.in_ok-a.was) ∙ lists_go _ _ _ _ (sym c.rows-2.ensures ∙ c.in_ok-b.was) ∙ lists_go _ _ _ _ (sym c.rows-3.ensures ∙ c.in_ok-c.was) ∙ lists_one _ _ _)
