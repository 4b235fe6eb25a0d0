-- What is written is the text up to the next part.
use Rattle.std.proofs.Common.{arith}
use Rattle.keep.proofs.Parted.{written_next}
use Rattle.keep.proofs.print.Goals as goal

pub loop-count-preserved : goal.loop-count-preserved
loop-count-preserved g c =
    (omega (arith, c.in-Next.ensures.1), written_next _ _ _ _ _ _ _ c.in-Next.ensures c.loop-count.invariant.1 c.in_ok-write_all-in-Next.ensures.bytes)
