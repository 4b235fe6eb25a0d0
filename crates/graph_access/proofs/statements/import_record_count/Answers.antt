use mathlib.Core.Path.{◌∙◌}
use native.Mathlib.Omega.{arith}
use Rattle.graph_access.specs.Names.{statement_import_records}
use Rattle.graph_access.proofs.StatementParts.{import_records}
use Rattle.graph_access.proofs.Indexes.{found_at_most, statement_list_few}
use Rattle.graph_access.proofs.statements.import_record_count.Goals as goal

pub overflow_add-p : goal.overflow_add-p
overflow_add-p c = omega (arith, (import_records c.requires.loaded c.requires.m_bound.0 c.requires.m_bound.1 c.place-p.ensures).inside)

pub offset_bounds-numbers-p : goal.offset_bounds-numbers-p
offset_bounds-numbers-p c = omega (arith, (import_records c.requires.loaded c.requires.m_bound.0 c.requires.m_bound.1 c.place-p.ensures).inside)

pub bounds-numbers-p : goal.bounds-numbers-p
bounds-numbers-p c = (import_records c.requires.loaded c.requires.m_bound.0 c.requires.m_bound.1 c.place-p.ensures).inside

pub returns : goal.returns
unfolding statement_import_records
returns c = found_at_most (c.wide.ensures ∙ (import_records c.requires.loaded c.requires.m_bound.0 c.requires.m_bound.1 c.place-p.ensures).counted) (statement_list_few c.requires.loaded _ _ 0 c.requires.m_bound.0 c.requires.m_bound.1 (omega arith))
