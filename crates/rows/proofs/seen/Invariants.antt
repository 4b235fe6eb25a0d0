use Prim.Native.Nat.{◌≤◌}
use mathlib.Core.Path.{◌≡◌}
use Rattle.rows.specs.Walk.{elem, firsts_at}
use Rattle.rows.proofs.seen.Given as goal

abbrev pub invariant-loop-k : goal.invariant-loop-k
invariant-loop-k l = (l.k ≤ l.count) × (elem l.x (firsts_at l.numbers l.at l.width l.k) ≡ elem l.x (firsts_at l.numbers l.at l.width l.count))

abbrev pub decreases-loop-k : goal.decreases-loop-k
decreases-loop-k l = l.k
