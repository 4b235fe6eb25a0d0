use mathlib.Core.Path.{◌∙◌}
use native.Mathlib.Omega.{arith}
use Rattle.graph_tables.proofs.Facts.{at-count-inside, at_count}
use Rattle.graph_tables.proofs.import_record_count.Goals as goal

pub bounds-module_at-m : goal.bounds-module_at-m
bounds-module_at-m c = omega (arith, c.requires.module_table.long, c.requires.m_bound)

pub overflow_add-p : goal.overflow_add-p
overflow_add-p c = omega (arith, at-count-inside _ _ c.requires.module_table _ c.requires.m_bound)

pub offset_bounds-numbers-p : goal.offset_bounds-numbers-p
offset_bounds-numbers-p c = omega (arith, at-count-inside _ _ c.requires.module_table _ c.requires.m_bound)

pub bounds-numbers-p : goal.bounds-numbers-p
bounds-numbers-p c = at-count-inside _ _ c.requires.module_table _ c.requires.m_bound

pub returns : goal.returns
returns c = c.wide.ensures ∙ at_count _ _ c.requires.module_table _ c.requires.m_bound
