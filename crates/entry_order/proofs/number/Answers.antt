use Rattle.entry_order.proofs.Numbered.{number_start, number_step, number-done}
use Rattle.entry_order.proofs.number.Goals as goal

pub loop-e-init : goal.loop-e-init
loop-e-init c = number_start _ _ c.requires

pub loop-e-preserved : goal.loop-e-preserved
loop-e-preserved c = number_step _ _ _ _ c.loop-e.invariant c.loop-e-test.true

pub returns : goal.returns
returns c = number-done _ _ _ _ c.loop-e.invariant c.loop-e-test.false
