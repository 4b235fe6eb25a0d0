use Prim.Native.Nat.{◌+◌, ◌*◌, ◌≤◌}
use Rattle.listing.specs.Parts.{pair_text}
use Rattle.listing.proofs.Pieces.{Going}
use Rattle.listing.proofs.put_pairs.Given as goal

abbrev pub invariant-loop-i : goal.invariant-loop-i
invariant-loop-i l = Going l.skip (pair_text l.word l.row l.first l.m) l.count l.i l.at l.initial.out l.out l.end × (l.end ≤ l.at + 128 * l.i)
