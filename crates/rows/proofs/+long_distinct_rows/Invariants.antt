-- rows/proofs/+long_distinct_rows/Invariants.antt
use Rattle.rows.proofs.+long_distinct_rows.Given as goal

abbrev pub decreases-long_distinct_rows : goal.decreases-long_distinct_rows
decreases-long_distinct_rows l = l.again
