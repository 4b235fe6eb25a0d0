use Rattle.drain_sizes.proofs.+drain_larger.Given as goal

abbrev pub decreases-drain_larger : goal.decreases-drain_larger
decreases-drain_larger l = l.again
