use native.Mathlib.Omega.{arith}
use Rattle.graph_access.proofs.StatementParts.{import_records, references_behind}
use Rattle.graph_access.proofs.statements.first_reference.Goals as goal

pub overflow_add-p : goal.overflow_add-p
overflow_add-p c = omega (arith, (import_records c.requires.loaded c.requires.m_bound.0 c.requires.m_bound.1 c.place-p.ensures).inside)

pub offset_bounds-numbers-p : goal.offset_bounds-numbers-p
offset_bounds-numbers-p c = omega (arith, (import_records c.requires.loaded c.requires.m_bound.0 c.requires.m_bound.1 c.place-p.ensures).inside)

pub bounds-numbers-p : goal.bounds-numbers-p
bounds-numbers-p c = (import_records c.requires.loaded c.requires.m_bound.0 c.requires.m_bound.1 c.place-p.ensures).inside

pub overflow_add-result : goal.overflow_add-result
overflow_add-result c = omega (arith, (references_behind c.requires.loaded c.requires.m_bound.0 c.requires.m_bound.1 c.place-p.ensures c.wide-imports.ensures).inside)

pub overflow_add-result-2 : goal.overflow_add-result-2
overflow_add-result-2 c = omega (arith, (references_behind c.requires.loaded c.requires.m_bound.0 c.requires.m_bound.1 c.place-p.ensures c.wide-imports.ensures).inside)

pub returns : goal.returns
returns c = (references_behind c.requires.loaded c.requires.m_bound.0 c.requires.m_bound.1 c.place-p.ensures c.wide-imports.ensures).follow
