use native.Mathlib.Omega.{arith}
use Rattle.listing.proofs.Pieces.{go_none, go_more}
use Rattle.listing.proofs.put_entries.Goals as goal

pub loop-k-init : goal.loop-k-init
loop-k-init c = (go_none, omega arith)

pub loop-k-preserved : goal.loop-k-preserved
loop-k-preserved c =
    let p = c.put_entry-end in
    let i = c.loop-k.invariant in
    (go_more i.0 c.loop-k-test.true p.auto.out p.ensures.0, omega (arith, i.1, p.ensures.1))
