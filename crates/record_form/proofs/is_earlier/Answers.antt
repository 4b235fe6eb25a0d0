use Rattle.record_form.proofs.Forms.{earlier_none, earlier_some}
use Rattle.record_form.proofs.is_earlier.Goals as goal

pub returns-then-n-eq0 : goal.returns-then-n-eq0
returns-then-n-eq0 c = earlier_none _ _ c.if-n-eq0.true

pub returns : goal.returns
returns c = earlier_some _ _ c.if-n-eq0.false
