use Rattle.cycles.specs.Memory.{last_first}
use Rattle.cycles.specs.Walked.{Marked}
use Rattle.cycles.proofs.mark_group.Given as goal

abbrev pub invariant-loop-i : goal.invariant-loop-i
invariant-loop-i l = Marked (last_first l.i l.group) l.modules l.at l.initial.plan l.plan
