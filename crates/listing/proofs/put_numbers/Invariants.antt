use Prim.Native.Nat.{◌+◌, ◌*◌, ◌≤◌}
use mathlib.Core.List.{◌∷◌}
use lib.ListN.{length, get_or}
use Rattle.listing.specs.Text.{decimal}
use Rattle.listing.proofs.Pieces.{Going}
use Rattle.listing.proofs.put_numbers.Given as goal

abbrev pub invariant-loop-i : goal.invariant-loop-i
invariant-loop-i l = Going l.skip (λ k. 32 ∷ decimal (get_or l.numbers k 0)) (length l.numbers) l.i l.at l.initial.out l.out l.end × (l.end ≤ l.at + 21 * l.i)
