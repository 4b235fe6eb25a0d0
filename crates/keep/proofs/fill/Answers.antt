-- A read puts the next bytes behind those of the reads before it.
use Rattle.std.proofs.Common.{rules}
use Rattle.keep.proofs.Counted.{read_on}
use Rattle.keep.proofs.fill.Goals as goal

pub loop-done-preserved : goal.loop-done-preserved
loop-done-preserved g c =
    (search rules, search rules, read_on _ _ _ c.loop-done.done c.in_ok-count.count c.loop-done.buffer c.read.new.buf c.loop-done.invariant.1 c.in_ok-count.ensures.bound.0 c.loop-done.invariant.2 c.in_ok-count.ensures.bytes.0)
