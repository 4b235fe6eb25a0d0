use Rattle.graph_format.proofs.Limits.{owners_none, owners_some}
use Rattle.graph_format.proofs.owners_counts.Goals as goal

pub returns-then-count-eq0 : goal.returns-then-count-eq0
returns-then-count-eq0 c = owners_none _ c.if-count-eq0.true

pub returns-else-count-eq0 : goal.returns-else-count-eq0
returns-else-count-eq0 c = owners_some _ c.if-count-eq0.false
