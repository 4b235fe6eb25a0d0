use Prim.Native.Nat.{ℕ, ◌+◌, ◌-◌, ◌*◌, ◌<◌, ◌≤◌}
use mathlib.Core.Path.{◌≡◌}
use mathlib.Core.Bool.{false}
use Rattle.bit_row.specs.Row.{bit_at}
use Rattle.cycles.proofs.next_source.Given as goal

abbrev pub invariant-loop-u : goal.invariant-loop-u
invariant-loop-u l =
    record {
      after : l.from ≤ l.u;
      near : l.u ≤ l.modules + 8;
      passed : (j : ℕ) → l.from ≤ j → j < l.u → bit_at l.edges (l.t * l.modules + j) ≡ false;
    }

abbrev pub decreases-loop-u : goal.decreases-loop-u
decreases-loop-u l = l.modules - l.u
