use Rattle.listing.proofs.Pieces.{go_none, go_more, go_done, emits_both, emits_as, fields_of}
use native.Mathlib.Omega.{arith}
use Rattle.listing.proofs.put_numbers.Goals as goal

pub loop-i-init : goal.loop-i-init
loop-i-init c = (go_none, omega arith)

pub loop-i-preserved : goal.loop-i-preserved
loop-i-preserved c =
    let p = c.put_number-end in
    let l = c.loop-i in
    (go_more l.invariant.0 c.loop-i-test.true p.auto.out p.ensures.0, omega (arith, l.invariant.1, p.ensures.1))

pub returns : goal.returns
returns c =
    let i = c.loop-i.invariant in
    let p = c.put_byte.ensures in
    (emits_as (fields_of _) (emits_both (go_done i.0 c.loop-i-test.false) p), omega (arith, i.1, i.0.few, p.counts))
