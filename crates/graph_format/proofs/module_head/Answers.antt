use mathlib.Core.Path.{◌∙◌, sym}
use mathlib.Core.List.{[], ◌∷◌}
use native.Mathlib.Omega.{arith}
use Rattle.graph_format.proofs.Chains.{row_go, row_stop, cells_inside}
use Rattle.rows.specs.Walk.{plain_row, columns_of}
use Rattle.graph_format.specs.Format.{module_rules}
use Rattle.rows.proofs.refusal_crate.Exits.{passed_on}
use Rattle.graph_format.proofs.module_head.Goals as goal

pub module_counts-requires : goal.module_counts-requires
unfolding columns_of plain_row
module_counts-requires c = omega (arith, cells_inside _ _ _ _ (sym c.row.ensures ∙ c.in_ok-a.was))

pub returns-in_err-a : goal.returns-in_err-a
unfolding columns_of module_rules
returns-in_err-a c = passed_on _ _ c.from_residual.ensures.1 ∙ (sym (row_stop (_ ∷ _ ∷ _ ∷ []) _ _ _ (sym c.row.ensures ∙ c.in_err-a.was)))

pub returns-in_err-b : goal.returns-in_err-b
unfolding columns_of module_rules
returns-in_err-b c = passed_on _ _ c.from_residual-in_err-b.ensures.1 ∙ (sym (row_go (_ ∷ _ ∷ _ ∷ []) _ _ _ (sym c.row.ensures ∙ c.in_ok-a.was) ∙ row_stop (_ ∷ _ ∷ _ ∷ []) _ _ _ (sym c.row-2.ensures ∙ c.in_err-b.was)))

pub returns-in_err-c : goal.returns-in_err-c
unfolding columns_of module_rules
returns-in_err-c c = passed_on _ _ c.from_residual-in_err-c.ensures.1 ∙ (sym (row_go (_ ∷ _ ∷ _ ∷ []) _ _ _ (sym c.row.ensures ∙ c.in_ok-a.was) ∙ row_go (_ ∷ _ ∷ _ ∷ []) _ _ _ (sym c.row-2.ensures ∙ c.in_ok-b.was) ∙ row_stop (_ ∷ []) _ _ _ (sym c.row-3.ensures ∙ c.in_err-c.was)))

pub returns : goal.returns
unfolding columns_of module_rules
returns c = c.module_counts.ensures ∙ sym (row_go (_ ∷ _ ∷ _ ∷ []) _ _ _ (sym c.row.ensures ∙ c.in_ok-a.was) ∙ row_go (_ ∷ _ ∷ _ ∷ []) _ _ _ (sym c.row-2.ensures ∙ c.in_ok-b.was) ∙ row_go (_ ∷ []) _ _ _ (sym c.row-3.ensures ∙ c.in_ok-c.was))
