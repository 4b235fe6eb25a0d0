use Rattle.starts.proofs.Starting.{starts_begin, fault_read, stop-checked, turn-checked, end_checked, fault_small, odd_checked}
use lib.ListN.{length}
use Prim.Native.Nat.{◌+◌, ◌*◌, ◌<◌, ◌≤◌}
use native.Mathlib.Omega.{arith}
use Rattle.starts.proofs.check.Goals as goal

pub returns-then-starts-ne0 : goal.returns-then-starts-ne0
returns-then-starts-ne0 c = odd_checked _ _ c.if-starts-ne0.true

pub loop-i-init : goal.loop-i-init
loop-i-init c = (omega arith, starts_begin _ _)

pub overflow_add-result : goal.overflow_add-result
overflow_add-result c = let s : c.start_fault-fault.result ≤ 3 = rw c.start_fault-fault.ensures (fault_small _ _ _ _) in let l : 3 * c.loop-i.i + 2 < length c.args.starts.now = omega (arith, c.loop-i-test.true) in record { fits = omega (arith, s, l) }

pub overflow_sub-result : goal.overflow_sub-result
overflow_sub-result c = let n = c.if-fault-ne0.true in omega (arith, n)

pub returns-then-fault-ne0 : goal.returns-then-fault-ne0
returns-then-fault-ne0 c = stop-checked _ _ _ _ c.if-starts-ne0.false c.loop-i-test.true c.loop-i.invariant.1 (fault_read _ _ _ _ _ _ _ c.wide.ensures c.wide-in-loop-i.ensures c.wide-in-loop-i-2.ensures c.start_fault-fault.ensures) c.if-fault-ne0.true

pub loop-i-preserved : goal.loop-i-preserved
loop-i-preserved c = (omega (arith, c.loop-i-test.true), turn-checked _ _ _ _ c.if-starts-ne0.false c.loop-i-test.true c.loop-i.invariant.1 (fault_read _ _ _ _ _ _ _ c.wide.ensures c.wide-in-loop-i.ensures c.wide-in-loop-i-2.ensures c.start_fault-fault.ensures) c.if-fault-ne0.false)

pub returns : goal.returns
returns c = end_checked _ _ _ c.if-starts-ne0.false (omega (arith, c.loop-i-test.false)) c.loop-i.invariant.1
