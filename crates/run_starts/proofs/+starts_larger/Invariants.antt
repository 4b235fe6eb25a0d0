use Rattle.run_starts.proofs.+starts_larger.Given as goal

abbrev pub decreases-starts_larger : goal.decreases-starts_larger
decreases-starts_larger l = l.again
