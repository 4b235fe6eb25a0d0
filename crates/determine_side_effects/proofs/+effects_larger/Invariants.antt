-- determine_side_effects/proofs/+effects_larger/Invariants.antt
use Rattle.determine_side_effects.proofs.+effects_larger.Given as goal

abbrev pub decreases-effects_larger : goal.decreases-effects_larger
decreases-effects_larger l = l.again
