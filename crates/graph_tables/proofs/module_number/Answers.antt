use mathlib.Core.Path.{◌∙◌}
use native.Mathlib.Omega.{arith}
use Rattle.graph_tables.proofs.Facts.{at-inside, at_same}
use Rattle.graph_tables.proofs.module_number.Goals as goal

pub bounds-module_at-m : goal.bounds-module_at-m
bounds-module_at-m c = omega (arith, c.requires.module_table.long, c.requires.m_bound.0)

pub overflow_add-p : goal.overflow_add-p
overflow_add-p c = omega (arith, at-inside _ _ c.requires.module_table _ c.requires.m_bound.0 _ c.requires.m_bound.1)

pub offset_bounds-numbers-p : goal.offset_bounds-numbers-p
offset_bounds-numbers-p c = omega (arith, at-inside _ _ c.requires.module_table _ c.requires.m_bound.0 _ c.requires.m_bound.1)

pub bounds-numbers-p : goal.bounds-numbers-p
bounds-numbers-p c = at-inside _ _ c.requires.module_table _ c.requires.m_bound.0 _ c.requires.m_bound.1

pub returns : goal.returns
returns c = c.wide.ensures ∙ at_same _ _ c.requires.module_table _ c.requires.m_bound.0 _ c.requires.m_bound.1
