use Rattle.dynamic_entries.proofs.Copying.{copies_start, copies-done, copy-room, copy-next}
use native.Mathlib.Omega.{arith}
use Rattle.dynamic_entries.proofs.copy_back.Goals as goal

pub loop-i-init : goal.loop-i-init
loop-i-init c = copies_start _ _ _ _ c.requires

pub overflow_add-plan : goal.overflow_add-plan
overflow_add-plan c = omega (arith, copy-room _ _ _ _ c.requires _ _ c.loop-i.invariant c.loop-i-test.true)

pub bounds-plan-users : goal.bounds-plan-users
bounds-plan-users c = copy-room _ _ _ _ c.requires _ _ c.loop-i.invariant c.loop-i-test.true

pub loop-i-preserved : goal.loop-i-preserved
loop-i-preserved c = copy-next _ _ _ _ c.requires _ _ c.loop-i.invariant c.loop-i-test.true _ c.wide.ensures

pub returns : goal.returns
returns c = copies-done _ _ _ _ c.requires _ _ c.loop-i.invariant c.loop-i-test.false
