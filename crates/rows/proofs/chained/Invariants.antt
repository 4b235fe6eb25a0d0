use Rattle.rows.proofs.Chains.{Back}
use Rattle.rows.proofs.chained.Given as goal

abbrev pub invariant-loop-v : goal.invariant-loop-v
invariant-loop-v l = Back l.numbers l.at l.width l.count l.x l.v

abbrev pub decreases-loop-v : goal.decreases-loop-v
decreases-loop-v l = l.v
