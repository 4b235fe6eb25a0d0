use mathlib.Core.Path.{◌∙◌}
use Rattle.worklist.proofs.Draining.{drain_start, drain_step, drain_full, drain_done}
use Rattle.keep_record.proofs.Counting.{held_few}
use Prim.Native.Nat.{◌<◌}
use native.Mathlib.Omega.{arith}
use Rattle.determine_side_effects.proofs.refusal_crate.Exits.{passed_on}
use Rattle.worklist.proofs.drain_work_items.Goals as goal

pub loop-at-init : goal.loop-at-init
loop-at-init c = drain_start _ _ _ _ _ _ _ _ c.requires.held c.requires.linked c.requires.base_le_k.0 c.requires.base_le_k.1

pub handle-requires : goal.handle-requires
handle-requires c =
    let below : c.loop-at.at < c.loop-at.total = omega (arith, c.loop-at-test.true, c.loop-at.invariant.begun, c.loop-at.invariant.low) in record { prepared = c.requires.prepared; held = c.loop-at.invariant.held; linked = c.loop-at.invariant.linked; base_le_k = (omega (arith, c.loop-at.invariant.over, c.loop-at.invariant.begun), below) }

pub returns-in_err-total : goal.returns-in_err-total
returns-in_err-total c =
    let below : c.loop-at.at < c.loop-at.total = omega (arith, c.loop-at-test.true, c.loop-at.invariant.begun, c.loop-at.invariant.low) in rw (passed_on c.from_residual.result _ c.from_residual.ensures.1) (drain_full _ _ _ _ _ _ _ _ _ _ c.loop-at.invariant below (held_few c.requires.prepared.loaded _ _ _ _ c.loop-at.invariant.held) _ _ _ (rw c.in_err-total.was at c.handle.ensures))

pub loop-at-smaller : goal.loop-at-smaller
loop-at-smaller c =
    let below : c.loop-at.at < c.loop-at.total = omega (arith, c.loop-at-test.true, c.loop-at.invariant.begun, c.loop-at.invariant.low) in
    omega (arith, below, held_few c.requires.prepared.loaded _ _ _ _ c.loop-at.invariant.held)

pub loop-at-preserved : goal.loop-at-preserved
loop-at-preserved c =
    let below : c.loop-at.at < c.loop-at.total = omega (arith, c.loop-at-test.true, c.loop-at.invariant.begun, c.loop-at.invariant.low) in
    drain_step _ _ _ _ _ _ _ _ _ _ c.loop-at.invariant below (held_few c.requires.prepared.loaded _ _ _ _ c.loop-at.invariant.held) _ _ _ _ (rw c.in_ok-total.was at c.handle.ensures)

pub returns : goal.returns
returns c = drain_done _ _ _ _ _ _ _ _ _ _ c.loop-at.invariant c.loop-at-test.false
