use Rattle.entry_sizes.proofs.+order_larger.Given as goal

abbrev pub decreases-order_larger : goal.decreases-order_larger
decreases-order_larger l = l.again
