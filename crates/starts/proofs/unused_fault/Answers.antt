use Rattle.starts.proofs.Starting.{unused_none, unused_some}
use Rattle.starts.proofs.unused_fault.Goals as goal

pub returns-then-b-eq0 : goal.returns-then-b-eq0
returns-then-b-eq0 c = unused_none _ c.if-b-eq0.true

pub returns : goal.returns
returns c = unused_some _ c.if-b-eq0.false
