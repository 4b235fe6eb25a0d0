use mathlib.Core.Path.{◌∙◌, sym}
use mathlib.Core.List.{[], ◌∷◌}
use Rattle.graph_format.proofs.Chains.{row_go, row_stop}
use Rattle.rows.specs.Walk.{plain_row, columns_of}
use Rattle.graph_format.specs.Format.{member_rules}
use Rattle.rows.proofs.refusal_crate.Exits.{passed_on}
use Rattle.graph_format.proofs.member.Goals as goal

pub returns-in_err-a : goal.returns-in_err-a
unfolding member_rules columns_of
returns-in_err-a c = passed_on _ _ c.from_residual.ensures.1 ∙ (sym (row_stop (_ ∷ _ ∷ _ ∷ []) _ _ _ (sym c.row.ensures ∙ c.in_err-a.was)))

pub returns : goal.returns
unfolding member_rules columns_of plain_row
returns c = c.row-2.ensures ∙ sym (row_go (_ ∷ _ ∷ _ ∷ []) _ _ _ (sym c.row.ensures ∙ c.in_ok-a.was))
