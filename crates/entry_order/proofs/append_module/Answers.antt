use Rattle.entry_order.proofs.Appending.{first_fits, along_start, along_done, along-place, along_step, along-less}
use native.Mathlib.Omega.{arith}
use Rattle.entry_order.proofs.append_module.Goals as goal

pub offset_bounds-chain-first : goal.offset_bounds-chain-first
offset_bounds-chain-first c = omega (arith, first_fits _ _ c.header_of-h.ensures _ _ _ _ c.requires.chained.0 c.requires.chained.1 c.requires.u_bound.0 c.args.n c.args.out.now, c.well_formed.1.1.1.0.1)

pub bounds-chain-first : goal.bounds-chain-first
bounds-chain-first c = first_fits _ _ c.header_of-h.ensures _ _ _ _ c.requires.chained.0 c.requires.chained.1 c.requires.u_bound.0 c.args.n c.args.out.now

pub loop-at-init : goal.loop-at-init
loop-at-init c = along_start _ _ c.header_of-h.ensures _ _ _ _ c.requires.chained.0 c.requires.chained.1 c.requires.u_bound.0 _ _ c.requires.u_bound.2

pub narrow-requires : goal.narrow-requires
narrow-requires c = omega (arith, (along-place _ _ c.header_of-h.ensures _ _ _ _ c.requires.chained.0 c.requires.chained.1 c.requires.u_bound.0 _ _ _ _ _ c.loop-at.invariant c.loop-at-test.true).1, c.requires.u_bound.1)

pub bounds-out-k : goal.bounds-out-k
bounds-out-k c = (along-place _ _ c.header_of-h.ensures _ _ _ _ c.requires.chained.0 c.requires.chained.1 c.requires.u_bound.0 _ _ _ _ _ c.loop-at.invariant c.loop-at-test.true).3

pub overflow_add-at : goal.overflow_add-at
overflow_add-at c = omega (arith, (along-place _ _ c.header_of-h.ensures _ _ _ _ c.requires.chained.0 c.requires.chained.1 c.requires.u_bound.0 _ _ _ _ _ c.loop-at.invariant c.loop-at-test.true).2, c.well_formed.1.1.1.0.1)

pub offset_bounds-chain-modules : goal.offset_bounds-chain-modules
offset_bounds-chain-modules c = omega (arith, (along-place _ _ c.header_of-h.ensures _ _ _ _ c.requires.chained.0 c.requires.chained.1 c.requires.u_bound.0 _ _ _ _ _ c.loop-at.invariant c.loop-at-test.true).2, c.well_formed.1.1.1.0.1)

pub bounds-chain-modules : goal.bounds-chain-modules
bounds-chain-modules c = omega (arith, (along-place _ _ c.header_of-h.ensures _ _ _ _ c.requires.chained.0 c.requires.chained.1 c.requires.u_bound.0 _ _ _ _ _ c.loop-at.invariant c.loop-at-test.true).2)

pub loop-at-smaller : goal.loop-at-smaller
loop-at-smaller c = along-less _ _ c.header_of-h.ensures _ _ _ _ c.requires.chained.0 c.requires.chained.1 c.requires.u_bound.0 _ _ _ _ _ c.loop-at.invariant c.loop-at-test.true

pub loop-at-preserved : goal.loop-at-preserved
loop-at-preserved c = along_step _ _ c.header_of-h.ensures _ _ _ _ c.requires.chained.0 c.requires.chained.1 c.requires.u_bound.0 _ _ _ _ _ c.loop-at.invariant c.loop-at-test.true _ c.narrow.ensures

pub returns : goal.returns
returns c = along_done _ _ c.header_of-h.ensures _ _ _ _ c.requires.chained.0 c.requires.chained.1 c.requires.u_bound.0 _ _ _ _ _ c.loop-at.invariant c.loop-at-test.false
