use Rattle.listing.proofs.Pieces.{go_none, go_more, go_done, emits_as, bytes_of}
use native.Mathlib.Omega.{arith}
use Rattle.listing.proofs.put_word.Goals as goal

pub loop-i-init : goal.loop-i-init
loop-i-init c = (go_none, omega arith)

pub loop-i-preserved : goal.loop-i-preserved
loop-i-preserved c =
    let p = c.put_byte-end in
    let l = c.loop-i in
    (go_more l.invariant.0 c.loop-i-test.true p.auto.out p.ensures, omega (arith, l.invariant.1, p.ensures.counts))

pub returns : goal.returns
returns c = (emits_as (bytes_of _) (go_done c.loop-i.invariant.0 c.loop-i-test.false), omega (arith, c.loop-i.invariant.1, c.loop-i.invariant.0.few))
