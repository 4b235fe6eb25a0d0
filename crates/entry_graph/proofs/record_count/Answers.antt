use mathlib.Core.Path.{ap, ◌∙◌, sym}
use lib.ListN.{length}
use Rattle.entry_graph.proofs.Imports.{records_normal, records_none}
use Rattle.entry_graph.proofs.record_count.Goals as goal

pub returns-then-is_normal : goal.returns-then-is_normal
returns-then-is_normal c = c.import_record_count.ensures.0 ∙ ap length (sym (records_normal _ _ (sym c.is_normal.ensures ∙ c.if-is_normal.true)))

pub returns : goal.returns
returns c = ap length (sym (records_none _ _ (sym c.is_normal.ensures ∙ c.if-is_normal.false)))
