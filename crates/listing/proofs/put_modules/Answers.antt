use native.Mathlib.Omega.{arith}
use Rattle.listing.proofs.Pieces.{go_none, go_more}
use Rattle.listing.proofs.put_modules.Goals as goal

pub loop-m-init : goal.loop-m-init
loop-m-init c = (go_none, omega arith)

pub loop-m-preserved : goal.loop-m-preserved
loop-m-preserved c =
    let p = c.put_module-end in
    let i = c.loop-m.invariant in
    (go_more i.0 c.loop-m-test.true p.auto.out p.ensures.0, omega (arith, i.1, p.ensures.1))
