use native.Mathlib.Omega.{arith}
use Rattle.listing.proofs.Pieces.{go_none, go_more, emits_as}
use Rattle.listing.proofs.Lines.{symbol_is}
use Rattle.listing.proofs.put_symbols.Goals as goal

pub loop-s-init : goal.loop-s-init
loop-s-init c = (go_none, omega arith)

pub loop-s-preserved : goal.loop-s-preserved
loop-s-preserved c =
    let p = c.put_line_if-end in
    let i = c.loop-s.invariant in
    (go_more i.0 c.loop-s-test.true p.auto.out (emits_as (symbol_is _ _ _ _ c.test.ensures) p.ensures.0), omega (arith, i.1, p.ensures.1))
