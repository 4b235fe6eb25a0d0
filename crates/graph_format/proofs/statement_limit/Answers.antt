use Rattle.graph_format.proofs.Limits.{statement_none, statement_some}
use Rattle.graph_format.proofs.statement_limit.Goals as goal

pub returns-then-kind-eq0 : goal.returns-then-kind-eq0
returns-then-kind-eq0 c = statement_none _ _ c.if-kind-eq0.true

pub returns-else-kind-eq0 : goal.returns-else-kind-eq0
returns-else-kind-eq0 c = statement_some _ _ c.if-kind-eq0.false
