-- `leb128::longer_at` meets its contract. Between `at` and `next` stand one to four groups, none of them the last, worth `sum`; what is
-- left, from `next`, is the whole number.
use Prim.Native.Nat.{◌-◌, ◌^◌, ◌<◌, ◌≤◌}
use mathlib.Core.Path.{◌≡◌}
use lib.ListN.{length, drop}
use Rattle.leb128.specs.Number.{number_of}
use Rattle.leb128.proofs.Scan.{rest}
use Rattle.leb128.proofs.longer_at.Given as goal

abbrev pub invariant-loop-next : goal.invariant-loop-next
invariant-loop-next l =
    (l.at < l.next) × (l.next ≤ length l.file) × (l.next - l.at ≤ 4) × (l.weight ≡ 128 ^ (l.next - l.at)) × (l.sum < l.weight) × (rest (l.next - l.at) l.sum l.weight l.next (drop l.next l.file) ≡ number_of l.at (drop l.at l.file))

abbrev pub decreases-loop-next : goal.decreases-loop-next
decreases-loop-next l = length l.file - l.next
