use Rattle.cycles.specs.Memory.{last_first}
use Rattle.cycles.specs.Walked.{preds_in}
use Rattle.cycles.proofs.Groups.{Marking}
use Rattle.cycles.proofs.mark_cycles.Given as goal

abbrev pub invariant-loop-k : goal.invariant-loop-k
invariant-loop-k l = Marking (preds_in l.modules l.edges) l.modules l.at (last_first l.count l.order) l.initial.plan (last_first l.k l.order) l.seen l.plan
