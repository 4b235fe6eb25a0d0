use native.Mathlib.Omega.{arith}
use Rattle.listing.proofs.Pieces.{go_none, go_more, emits_as}
use Rattle.listing.proofs.Lines.{pair_is}
use Rattle.listing.proofs.put_pairs.Goals as goal

pub loop-i-init : goal.loop-i-init
loop-i-init c = (go_none, omega arith)

pub loop-i-preserved : goal.loop-i-preserved
loop-i-preserved c =
    let p = c.put_line_if-end in
    let i = c.loop-i.invariant in
    (go_more i.0 c.loop-i-test.true p.auto.out (emits_as (pair_is _ _ _ _ _ _ c.test.ensures) p.ensures.0), omega (arith, i.1, p.ensures.1))
