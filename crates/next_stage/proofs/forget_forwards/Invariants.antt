use Rattle.next_stage.proofs.Forgetting.{Zeroing}
use Rattle.next_stage.proofs.forget_forwards.Given as goal

abbrev pub invariant-loop-i : goal.invariant-loop-i
invariant-loop-i l = Zeroing l.firsts l.initial.partners l.partners l.i
