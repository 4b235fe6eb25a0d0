use mathlib.Core.Path.{◌∙◌, sym}
use mathlib.Core.List.{[], ◌∷◌}
use Rattle.graph_entries.specs.rows_crate.Walk.{columns_of}
use Rattle.graph_entries.specs.graph_format_crate.Format.{header_rules}
use Rattle.graph_entries.proofs.graph_format_crate.Chains.{row_go, row_stop, cells_go, cells_stop}
use Rattle.graph_entries.proofs.refusal_crate.Exits.{passed_on}
use Rattle.graph.proofs.header.Goals as goal

pub returns-in_err-a : goal.returns-in_err-a
unfolding header_rules columns_of
returns-in_err-a c = rw (passed_on c.from_residual.result _ c.from_residual.ensures.1) (sym (row_stop (_ ∷ _ ∷ []) _ _ _ (sym c.row.ensures ∙ c.in_err-a.was)))

pub returns-in_err-b : goal.returns-in_err-b
unfolding header_rules columns_of
returns-in_err-b c = rw (passed_on c.from_residual-in_err-b.result _ c.from_residual-in_err-b.ensures.1) (sym (row_go (_ ∷ _ ∷ []) _ _ _ (sym c.row.ensures ∙ c.in_ok-a.was) ∙ cells_stop _ _ _ _ (sym c.counter.ensures ∙ c.in_err-b.was)))

pub returns-in_err-c : goal.returns-in_err-c
unfolding header_rules columns_of
returns-in_err-c c = rw (passed_on c.from_residual-in_err-c.result _ c.from_residual-in_err-c.ensures.1) (sym (row_go (_ ∷ _ ∷ []) _ _ _ (sym c.row.ensures ∙ c.in_ok-a.was) ∙ cells_go _ _ _ _ (sym c.counter.ensures ∙ c.in_ok-b.was) ∙ cells_stop _ _ _ _ (sym c.counter-2.ensures ∙ c.in_err-c.was)))

pub returns : goal.returns
unfolding header_rules columns_of
returns c = c.last_counts.ensures ∙ sym (row_go (_ ∷ _ ∷ []) _ _ _ (sym c.row.ensures ∙ c.in_ok-a.was) ∙ cells_go _ _ _ _ (sym c.counter.ensures ∙ c.in_ok-b.was) ∙ cells_go _ _ _ _ (sym c.counter-2.ensures ∙ c.in_ok-c.was))
