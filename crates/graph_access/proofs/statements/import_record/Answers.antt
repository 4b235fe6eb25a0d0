use mathlib.Core.Path.{◌∙◌, sym}
use native.Mathlib.Omega.{arith}
use Rattle.graph_access.specs.Names.{only}
use Rattle.graph_access.proofs.StatementParts.{import_records}
use Rattle.graph_access.proofs.Indexes.{found_below, statement_record_below}
use Rattle.graph_access.proofs.statements.import_record.Goals as goal

pub overflow_add-p : goal.overflow_add-p
overflow_add-p c = omega (arith, (import_records c.requires.loaded c.requires.m_bound.0 c.requires.m_bound.1 c.place-p.ensures).here _ c.requires.m_bound.2)

pub overflow_add-p-2 : goal.overflow_add-p-2
overflow_add-p-2 c = omega (arith, (import_records c.requires.loaded c.requires.m_bound.0 c.requires.m_bound.1 c.place-p.ensures).here _ c.requires.m_bound.2)

pub offset_bounds-numbers-p : goal.offset_bounds-numbers-p
offset_bounds-numbers-p c = omega (arith, (import_records c.requires.loaded c.requires.m_bound.0 c.requires.m_bound.1 c.place-p.ensures).here _ c.requires.m_bound.2)

pub bounds-numbers-p : goal.bounds-numbers-p
bounds-numbers-p c = omega (arith, (import_records c.requires.loaded c.requires.m_bound.0 c.requires.m_bound.1 c.place-p.ensures).here _ c.requires.m_bound.2)

pub returns : goal.returns
unfolding only
returns c = found_below (c.wide.ensures ∙ sym ((import_records c.requires.loaded c.requires.m_bound.0 c.requires.m_bound.1 c.place-p.ensures).same _ c.requires.m_bound.2)) (statement_record_below c.requires.loaded _ _ _ c.requires.m_bound.0 c.requires.m_bound.1 c.requires.m_bound.2)
