use Rattle.run_sizes.proofs.+run_larger.Given as goal

abbrev pub decreases-run_larger : goal.decreases-run_larger
decreases-run_larger l = l.again
