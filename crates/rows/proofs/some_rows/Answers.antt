use Rattle.rows.proofs.Distinct.{by_distinct, by_plain}
use Rattle.rows.proofs.some_rows.Goals as goal

pub returns-then-distinct : goal.returns-then-distinct
returns-then-distinct c = by_distinct _ _ _ _ _ _ c.if-distinct.true c.distinct_rows.ensures

pub returns-else-distinct : goal.returns-else-distinct
returns-else-distinct c = by_plain _ _ _ _ _ _ c.if-distinct.false c.plain_rows.ensures
