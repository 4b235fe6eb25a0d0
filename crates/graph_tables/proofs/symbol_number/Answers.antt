use mathlib.Core.Path.{◌∙◌}
use native.Mathlib.Omega.{arith}
use Rattle.graph_tables.proofs.Facts.{symbol_inside, symbol-same}
use Rattle.graph_tables.proofs.symbol_number.Goals as goal

pub bounds-symbol_at-s : goal.bounds-symbol_at-s
bounds-symbol_at-s c = omega (arith, c.requires.symbol_table.long, c.requires.s_bound.0)

pub overflow_add-p : goal.overflow_add-p
overflow_add-p c = omega (arith, symbol_inside _ _ c.requires.symbol_table _ c.requires.s_bound.0 _ c.requires.s_bound.1)

pub offset_bounds-numbers-p : goal.offset_bounds-numbers-p
offset_bounds-numbers-p c = omega (arith, symbol_inside _ _ c.requires.symbol_table _ c.requires.s_bound.0 _ c.requires.s_bound.1)

pub bounds-numbers-p : goal.bounds-numbers-p
bounds-numbers-p c = symbol_inside _ _ c.requires.symbol_table _ c.requires.s_bound.0 _ c.requires.s_bound.1

pub returns : goal.returns
returns c = c.wide.ensures ∙ symbol-same _ _ c.requires.symbol_table _ c.requires.s_bound.0 _ c.requires.s_bound.1
