use Rattle.next_stage.proofs.Forgetting.{zeroing_none, zeroing_more}
use native.Mathlib.Omega.{arith}
use Rattle.next_stage.proofs.forget_forwards.Goals as goal

pub loop-i-init : goal.loop-i-init
loop-i-init c = zeroing_none _ _

pub loop-i-preserved : goal.loop-i-preserved
loop-i-preserved c = zeroing_more _ _ _ _ c.loop-i.invariant (omega (arith, c.loop-i.invariant.same_length))

pub returns : goal.returns
returns c = let z = c.loop-i.invariant in (z.same_length, z.before, λ i a b. z.zeros i a (omega (arith, c.loop-i-test.false, b)))
