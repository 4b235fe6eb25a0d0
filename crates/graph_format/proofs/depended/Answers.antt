use mathlib.Core.Path.{◌∙◌, sym}
use Rattle.graph_format.proofs.ReferenceParts.{depended_go, depended_stop}
use Rattle.rows.specs.Walk.{plain_row, columns_of, row_of}
use Rattle.rows.proofs.refusal_crate.Exits.{passed_on}
use Rattle.graph_format.proofs.depended.Goals as goal

pub returns-in_err-a : goal.returns-in_err-a
unfolding columns_of plain_row
returns-in_err-a c = passed_on _ _ c.from_residual.ensures.1 ∙ (sym (depended_stop _ _ _ (sym c.row.ensures ∙ c.in_err-a.was)))

pub returns : goal.returns
unfolding columns_of plain_row row_of
returns c = c.rows.ensures ∙ sym (depended_go _ _ _ (sym c.row.ensures ∙ c.in_ok-a.was))
