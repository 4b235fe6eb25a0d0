use native.Mathlib.Omega.{arith}
use Rattle.cycles.proofs.Marks.{marked_start, marked_step, marked_whole}
use Rattle.cycles.proofs.mark_group.Goals as goal

pub loop-i-init : goal.loop-i-init
loop-i-init c = marked_start _ _ _ _

pub loop-i-preserved : goal.loop-i-preserved
loop-i-preserved c = marked_step _ _ _ _ _ _ (c.requires.size_bound.2 _ c.loop-i-test.true) (omega (arith, c.loop-i.invariant.others.same_length)) c.loop-i.invariant

pub returns : goal.returns
returns c = marked_whole _ _ _ _ _ _ _ (omega arith) c.loop-i.invariant
