use native.Mathlib.Omega.{arith}
use Rattle.listing.proofs.Pieces.{go_none, go_more}
use Rattle.listing.proofs.put_json_of.Goals as goal

pub loop-s-init : goal.loop-s-init
loop-s-init c = (go_none, omega arith)

pub loop-s-preserved : goal.loop-s-preserved
loop-s-preserved c =
    let p = c.put_json_symbol-end in
    let i = c.loop-s.invariant in
    (go_more i.0 c.loop-s-test.true p.auto.out p.ensures.0, omega (arith, i.1, p.ensures.1))
