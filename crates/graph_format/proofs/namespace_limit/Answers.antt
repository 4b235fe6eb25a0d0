use Rattle.graph_format.proofs.Limits.{namespace_none, namespace_some}
use Rattle.graph_format.proofs.namespace_limit.Goals as goal

pub returns-then-kind-eq0 : goal.returns-then-kind-eq0
returns-then-kind-eq0 c = namespace_none _ _ c.if-kind-eq0.true

pub returns-else-kind-eq0 : goal.returns-else-kind-eq0
returns-else-kind-eq0 c = namespace_some _ _ c.if-kind-eq0.false
