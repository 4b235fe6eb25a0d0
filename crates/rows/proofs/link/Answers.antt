use mathlib.Core.Path.{refl}
use Rattle.rows.proofs.Chains.{chains_more}
use native.Mathlib.Omega.{arith}
use Rattle.rows.proofs.link.Goals as goal

pub overflow_mul-h : goal.overflow_mul-h
overflow_mul-h c = omega arith

pub overflow_add-h : goal.overflow_add-h
overflow_add-h c = omega arith

pub offset_bounds-numbers-at : goal.offset_bounds-numbers-at
offset_bounds-numbers-at c = omega arith

pub bounds-numbers-at : goal.bounds-numbers-at
bounds-numbers-at c = omega arith

pub overflow_cast-h : goal.overflow_cast-h
overflow_cast-h c = omega arith

pub offset_bounds-heads-h : goal.offset_bounds-heads-h
offset_bounds-heads-h c = omega arith

pub bounds-heads-h : goal.bounds-heads-h
bounds-heads-h c = omega arith

pub offset_bounds-nexts-count : goal.offset_bounds-nexts-count
offset_bounds-nexts-count c = omega arith

pub bounds-nexts-count : goal.bounds-nexts-count
bounds-nexts-count c = omega arith

pub overflow_add-heads : goal.overflow_add-heads
overflow_add-heads c = omega arith

pub overflow_cast-heads : goal.overflow_cast-heads
overflow_cast-heads c = omega arith

pub offset_bounds-heads-h-2 : goal.offset_bounds-heads-h-2
offset_bounds-heads-h-2 c = omega arith

pub bounds-heads-h-2 : goal.bounds-heads-h-2
bounds-heads-h-2 c = omega arith

pub returns : goal.returns
returns c = chains_more _ _ _ _ _ _ _ refl c.requires.1 c.requires.2
