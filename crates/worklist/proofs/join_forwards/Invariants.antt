use Rattle.worklist.proofs.Joining.{Walking, ahead}
use Rattle.determine_side_effects.specs.graph_crate.Check.{graph_in}
use Rattle.worklist.proofs.join_forwards.Given as goal

abbrev pub invariant-loop-at : goal.invariant-loop-at
invariant-loop-at l = Walking (graph_in l.numbers) l.base l.initial.lines l.initial.total l.k l.owner l.marks l.lines l.total l.at

abbrev pub decreases-loop-at : goal.decreases-loop-at
decreases-loop-at l = ahead l.k l.at
