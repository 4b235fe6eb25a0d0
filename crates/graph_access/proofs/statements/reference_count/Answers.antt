use mathlib.Core.Path.{◌∙◌}
use native.Mathlib.Omega.{arith}
use Rattle.graph_access.specs.Names.{references}
use Rattle.graph_access.proofs.StatementParts.{import_records, references_behind}
use Rattle.graph_access.proofs.Indexes.{found_at_most, statement_list_few}
use Rattle.graph_access.proofs.statements.reference_count.Goals as goal

pub overflow_add-p : goal.overflow_add-p
overflow_add-p c = omega (arith, (import_records c.requires.loaded c.requires.m_bound.0 c.requires.m_bound.1 c.place-p.ensures).inside)

pub offset_bounds-numbers-p : goal.offset_bounds-numbers-p
offset_bounds-numbers-p c = omega (arith, (import_records c.requires.loaded c.requires.m_bound.0 c.requires.m_bound.1 c.place-p.ensures).inside)

pub bounds-numbers-p : goal.bounds-numbers-p
bounds-numbers-p c = (import_records c.requires.loaded c.requires.m_bound.0 c.requires.m_bound.1 c.place-p.ensures).inside

pub overflow_add-p-2 : goal.overflow_add-p-2
overflow_add-p-2 c = omega (arith, (references_behind c.requires.loaded c.requires.m_bound.0 c.requires.m_bound.1 c.place-p.ensures c.wide-imports.ensures).inside)

pub overflow_add-p-3 : goal.overflow_add-p-3
overflow_add-p-3 c = omega (arith, (references_behind c.requires.loaded c.requires.m_bound.0 c.requires.m_bound.1 c.place-p.ensures c.wide-imports.ensures).inside)

pub offset_bounds-numbers-p-2 : goal.offset_bounds-numbers-p-2
offset_bounds-numbers-p-2 c = omega (arith, (references_behind c.requires.loaded c.requires.m_bound.0 c.requires.m_bound.1 c.place-p.ensures c.wide-imports.ensures).inside)

pub bounds-numbers-p-2 : goal.bounds-numbers-p-2
bounds-numbers-p-2 c = (references_behind c.requires.loaded c.requires.m_bound.0 c.requires.m_bound.1 c.place-p.ensures c.wide-imports.ensures).inside

pub returns : goal.returns
unfolding references
returns c = found_at_most (c.wide.ensures ∙ (references_behind c.requires.loaded c.requires.m_bound.0 c.requires.m_bound.1 c.place-p.ensures c.wide-imports.ensures).counted) (statement_list_few c.requires.loaded _ _ 1 c.requires.m_bound.0 c.requires.m_bound.1 (omega arith))
