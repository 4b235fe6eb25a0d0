-- `leb128::fill` meets its contract. What is left of the file, behind the n numbers written, is the whole, and none of it is refused.
use Prim.Native.Nat.{◌-◌}
use lib.ListN.{length}
use Rattle.leb128.proofs.Filling.{Filling}
use Rattle.leb128.proofs.fill.Given as goal

abbrev pub invariant-loop-at : goal.invariant-loop-at
invariant-loop-at l = Filling l.file l.initial.numbers l.numbers l.n l.at

abbrev pub decreases-loop-at : goal.decreases-loop-at
decreases-loop-at l = length l.file - l.at
