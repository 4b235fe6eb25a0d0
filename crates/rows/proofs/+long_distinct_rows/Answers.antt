-- rows/proofs/+long_distinct_rows/Answers.antt
-- The tables are clear at first.
use Rattle.rows.proofs.Chains.{chains_none}
use Rattle.rows.proofs.+long_distinct_rows.Goals as goal

pub chained_rows-end-requires : goal.chained_rows-end-requires
chained_rows-end-requires t c = let p = c.requires in (p.0, p.1, p.2, chains_none _ _ _)
