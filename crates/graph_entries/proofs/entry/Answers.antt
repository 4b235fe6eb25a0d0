use mathlib.Core.Path.{◌∙◌, sym}
use Rattle.graph_entries.proofs.Parts.{entry_stop, entry_go}
use Rattle.graph_tables.proofs.refusal_crate.Exits.{passed_on}
use Rattle.graph_entries.proofs.entry.Goals as goal

pub returns-in_err-q : goal.returns-in_err-q
returns-in_err-q c = rw (passed_on c.from_residual.result _ c.from_residual.ensures.1) (sym (entry_stop _ _ _ _ _ (sym c.row.ensures ∙ c.in_err-q.was)))

pub returns : goal.returns
returns c = c.related_list.ensures ∙ sym (entry_go _ _ _ _ _ (sym c.row.ensures ∙ c.in_ok-q.was))
