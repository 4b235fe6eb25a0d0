-- The judge with marks of a size: arrays of zeros are long enough, and hold no mark.
use Prim.Native.Nat.{ℕ, ◌+◌, ◌*◌, ◌≤◌}
use mathlib.Core.Path.{◌≡◌}
use mathlib.Core.Bool.{false}
use native.Mathlib.Omega.{arith}
use lib.ListN.{length, replicate, length-replicate}
use Rattle.bit_row.specs.Row.{bit_at}
use Rattle.bit_row.proofs.Cleared.{zeros_unset}
use Rattle.graph.specs.graph_format_crate.declared.Header.{Header}

-- both rows of marks, for a graph of so many modules, symbols and statements
abbrev pub Clear : Header → ℕ → Type 0
Clear h n =
    (2 * h.modules + h.statements + 63 * h.symbols ≤ 8 * length (replicate {A = ℕ} n 0))
    × (2 * h.modules + h.statements + 63 * h.symbols ≤ 8 * length (replicate {A = ℕ} n 0))
    × ((j : ℕ) → bit_at (replicate n 0) j ≡ false)
    × ((j : ℕ) → bit_at (replicate n 0) j ≡ false)

pub marks_clear : (h : Header) (n : ℕ) → 2 * h.modules + h.statements + 63 * h.symbols ≤ 8 * n → Clear h n
marks_clear h n b =
    let l : 2 * h.modules + h.statements + 63 * h.symbols ≤ 8 * length (replicate {A = ℕ} n 0) = omega (arith, length-replicate {A = ℕ} n 0, b) in
    (l, l, zeros_unset n, zeros_unset n)
