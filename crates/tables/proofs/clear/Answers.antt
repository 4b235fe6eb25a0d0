use Rattle.tables.proofs.Writing.{clearing_start, clearing_step, clearing_done}
use native.Mathlib.Omega.{arith}
use Rattle.tables.proofs.clear.Goals as goal

pub overflow_add-end : goal.overflow_add-end
overflow_add-end c = omega (arith, c.requires.0.layout, c.requires.0.few)

pub loop-at-init : goal.loop-at-init
loop-at-init c = clearing_start _ _ c.requires.0

pub offset_bounds-tables-at : goal.offset_bounds-tables-at
offset_bounds-tables-at c = omega (arith, c.loop-at.invariant.low, c.loop-at-test.true, c.requires.0.ends, c.requires.0.few, c.loop-at.invariant.kept.same_length)

pub bounds-tables-at : goal.bounds-tables-at
bounds-tables-at c = omega (arith, c.loop-at.invariant.low, c.loop-at-test.true, c.requires.0.ends, c.requires.0.few, c.loop-at.invariant.kept.same_length)

pub loop-at-preserved : goal.loop-at-preserved
loop-at-preserved c = clearing_step _ _ c.requires.0 _ _ c.loop-at.invariant c.loop-at-test.true

pub returns : goal.returns
returns c = (c.loop-at.invariant.kept, clearing_done _ _ c.requires.0 _ _ c.loop-at.invariant c.loop-at-test.false c.requires.1)
