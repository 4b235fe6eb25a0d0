use Prim.Native.Nat.{◌+◌, ◌*◌, ◌≤◌}
use Rattle.listing.specs.Listing.{symbol_text}
use Rattle.listing.proofs.Pieces.{Going}
use Rattle.listing.proofs.put_symbols.Given as goal

abbrev pub invariant-loop-s : goal.invariant-loop-s
invariant-loop-s l = Going l.skip (symbol_text l.word l.row) l.count l.s l.at l.initial.out l.out l.end × (l.end ≤ l.at + 128 * l.s)
