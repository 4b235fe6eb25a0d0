use Prim.Native.Nat.{◌+◌, ◌≤◌}
use mathlib.Core.List.{[], ◌∷◌}
use lib.ListN.{length, get_or}
use Rattle.listing.proofs.Pieces.{Going}
use Rattle.listing.proofs.put_word.Given as goal

abbrev pub invariant-loop-i : goal.invariant-loop-i
invariant-loop-i l = Going l.skip (λ k. get_or l.word k 0 ∷ []) (length l.word) l.i l.at l.initial.out l.out l.end × (l.end ≤ l.at + l.i)
