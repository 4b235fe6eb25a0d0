use native.Mathlib.Omega.{arith}
use Rattle.listing.proofs.Pieces.{byte_put, byte_over, byte_passed}
use Rattle.listing.proofs.put_byte.Goals as goal
use Rattle.listing.proofs.put_byte.Goals.{then-at-skip+then-at-skip-2, then-at-skip+else-at-skip-2, else-at-skip}

pub returns : goal.returns
returns c =
    elim c.if-at-skip.branch [
      | then-at-skip+then-at-skip-2 w ↦ rw w.out-is (byte_put _ _ _ _ (omega (arith, w.if-at-skip.true)) (omega (arith, w.if-at-skip-2.true)))
      | then-at-skip+else-at-skip-2 w ↦ rw w.out-is (byte_over _ _ _ _ (omega (arith, w.if-at-skip.true)) (omega (arith, w.if-at-skip-2.false)))
      | else-at-skip w ↦ rw w.out-is (byte_passed _ _ _ _ (omega (arith, w.if-at-skip.false)))
    ]
