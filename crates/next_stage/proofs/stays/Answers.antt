use Rattle.next_stage.proofs.Staying.{stays_first, stays_second}
use Rattle.next_stage.proofs.stays.Goals as goal

pub returns-then-kind-eq1 : goal.returns-then-kind-eq1
returns-then-kind-eq1 c = stays_first c.args.fact _ c.kind_of-kind.ensures c.if-kind-eq1.true

pub returns : goal.returns
returns c = stays_second c.args.fact _ c.kind_of-kind.ensures c.if-kind-eq1.false
