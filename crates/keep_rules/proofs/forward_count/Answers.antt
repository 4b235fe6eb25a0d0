use Rattle.keep_rules.proofs.Forwards.{forwards_are}
use native.Mathlib.Omega.{arith}
use Rattle.keep_rules.proofs.forward_count.Goals as goal

pub returns : goal.returns
returns c = (forwards_are _ _ c.export_chain_count.ensures.0, omega (arith, c.export_chain_count.ensures.1))
