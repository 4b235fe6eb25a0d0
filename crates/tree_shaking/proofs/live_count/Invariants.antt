use Rattle.tree_shaking.proofs.Lives.{Counted}
use Rattle.determine_side_effects.specs.graph_crate.Check.{graph_in}
use Rattle.tree_shaking.proofs.live_count.Given as goal

abbrev pub invariant-loop-m : goal.invariant-loop-m
invariant-loop-m l = Counted (graph_in l.numbers) l.plan l.m l.live
