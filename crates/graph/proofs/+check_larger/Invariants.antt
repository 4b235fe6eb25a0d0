-- graph/proofs/+check_larger/Invariants.antt
use Rattle.graph.proofs.+check_larger.Given as goal

abbrev pub decreases-check_larger : goal.decreases-check_larger
decreases-check_larger l = l.again
