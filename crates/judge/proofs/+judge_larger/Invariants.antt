use Rattle.judge.proofs.+judge_larger.Given as goal

abbrev pub decreases-judge_larger : goal.decreases-judge_larger
decreases-judge_larger l = l.again
