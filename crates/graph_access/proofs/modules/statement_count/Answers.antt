use mathlib.Core.Path.{◌∙◌, sym}
use Rattle.graph_access.specs.Names.{statement_count}
use Rattle.graph_access.proofs.Indexes.{found_at_most, statements_counted, statements_few}
use Rattle.graph_access.proofs.modules.statement_count.Goals as goal

pub returns : goal.returns
unfolding statement_count
returns c = found_at_most (c.number.ensures ∙ sym (statements_counted c.requires.loaded _ c.requires.m_bound)) (statements_few c.requires.loaded _ c.requires.m_bound)
