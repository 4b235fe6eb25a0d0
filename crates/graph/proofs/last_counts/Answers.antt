use mathlib.Core.Path.{◌∙◌, sym}
use Rattle.graph.proofs.Loading.{cells_one}
use Rattle.graph_entries.specs.graph_format_crate.Format.{header_rules}
use Rattle.graph_entries.proofs.graph_format_crate.Chains.{cells_go, cells_stop}
use Rattle.graph_entries.proofs.refusal_crate.Exits.{passed_on}
use Rattle.graph.proofs.last_counts.Goals as goal

pub returns-in_err-a : goal.returns-in_err-a
unfolding header_rules
returns-in_err-a c = rw (passed_on c.from_residual.result _ c.from_residual.ensures.1) (sym (cells_stop _ _ _ _ (sym c.counter.ensures ∙ c.in_err-a.was)))

pub returns-in_err-b : goal.returns-in_err-b
unfolding header_rules
returns-in_err-b c = rw (passed_on c.from_residual-in_err-b.result _ c.from_residual-in_err-b.ensures.1) (sym (cells_go _ _ _ _ (sym c.counter.ensures ∙ c.in_ok-a.was) ∙ cells_stop _ _ _ _ (sym c.counter-2.ensures ∙ c.in_err-b.was)))

pub returns : goal.returns
unfolding header_rules
returns c = c.counter-3.ensures ∙ sym (cells_go _ _ _ _ (sym c.counter.ensures ∙ c.in_ok-a.was) ∙ cells_go _ _ _ _ (sym c.counter-2.ensures ∙ c.in_ok-b.was) ∙ cells_one _ _ _)
