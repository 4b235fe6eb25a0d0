use Rattle.graph_format.proofs.Limits.{least_kind, least_left, least_other}
use Rattle.graph_format.proofs.least_statements.Goals as goal

pub returns-then-left-kind : goal.returns-then-left-kind
returns-then-left-kind c = least_kind _ _ _ c.if-last.true c.if-left-kind.true

pub returns-then-last : goal.returns-then-last
returns-then-last c = least_left _ _ _ c.if-last.true c.if-left-kind.false

pub returns : goal.returns
returns c = least_other _ _ _ c.if-last.false
