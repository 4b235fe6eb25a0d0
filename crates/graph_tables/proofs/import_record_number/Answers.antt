use mathlib.Core.Path.{◌∙◌}
use native.Mathlib.Omega.{arith}
use Rattle.graph_tables.proofs.Facts.{at-record-inside, at-record}
use Rattle.graph_tables.proofs.import_record_number.Goals as goal

pub bounds-module_at-m : goal.bounds-module_at-m
bounds-module_at-m c = omega (arith, c.requires.module_table.long, c.requires.m_bound.0)

pub overflow_add-p : goal.overflow_add-p
overflow_add-p c = omega (arith, at-record-inside _ _ c.requires.module_table _ c.requires.m_bound.0 _ c.requires.m_bound.1 _ c.requires.m_bound.2)

pub overflow_mul-k : goal.overflow_mul-k
overflow_mul-k c = omega (arith, at-record-inside _ _ c.requires.module_table _ c.requires.m_bound.0 _ c.requires.m_bound.1 _ c.requires.m_bound.2)

pub overflow_add-p-2 : goal.overflow_add-p-2
overflow_add-p-2 c = omega (arith, at-record-inside _ _ c.requires.module_table _ c.requires.m_bound.0 _ c.requires.m_bound.1 _ c.requires.m_bound.2)

pub overflow_add-p-3 : goal.overflow_add-p-3
overflow_add-p-3 c = omega (arith, at-record-inside _ _ c.requires.module_table _ c.requires.m_bound.0 _ c.requires.m_bound.1 _ c.requires.m_bound.2)

pub offset_bounds-numbers-p : goal.offset_bounds-numbers-p
offset_bounds-numbers-p c = omega (arith, at-record-inside _ _ c.requires.module_table _ c.requires.m_bound.0 _ c.requires.m_bound.1 _ c.requires.m_bound.2)

pub bounds-numbers-p : goal.bounds-numbers-p
bounds-numbers-p c = at-record-inside _ _ c.requires.module_table _ c.requires.m_bound.0 _ c.requires.m_bound.1 _ c.requires.m_bound.2

pub returns : goal.returns
returns c = c.wide.ensures ∙ at-record _ _ c.requires.module_table _ c.requires.m_bound.0 _ c.requires.m_bound.1 _ c.requires.m_bound.2
