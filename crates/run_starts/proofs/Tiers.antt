-- Local arrays of a size: arrays of zeros are long enough, and hold no mark; and a size has room for the graphs that fit it.
use Prim.Native.Nat.{ℕ, ◌+◌, ◌*◌, ◌≤◌}
use mathlib.Core.Path.{◌≡◌}
use mathlib.Core.Bool.{false}
use native.Mathlib.Omega.{arith}
use lib.ListN.{length, get_or, replicate, length-replicate}
use Rattle.bit_row.specs.Row.{bit_at}
use Rattle.bit_row.proofs.Cleared.{zeros_unset}
use Rattle.facts.proofs.tables_crate.Zeros.{zeros_everywhere}
use Rattle.facts.specs.graph_format_crate.declared.Header.{Header}
use Rattle.entry_order.specs.Plan.{plan_size}

-- zeros for its partners
pub partners_long : (h : Header) (n : ℕ) → 3 * h.modules + h.symbols ≤ n
    → (3 * h.modules + h.symbols ≤ length (replicate {A = ℕ} n 0)) × ((i : ℕ) → get_or (replicate {A = ℕ} n 0) i 0 ≡ 0)
partners_long h n b = (rw (length-replicate {A = ℕ} n 0) b, zeros_everywhere n)

-- zeros for the marks of its starts
pub seen_clear : (h : Header) (n : ℕ) → 2 * h.modules + h.statements + 63 * h.symbols ≤ 8 * n
    → (2 * h.modules + h.statements + 63 * h.symbols ≤ 8 * length (replicate {A = ℕ} n 0)) × ((j : ℕ) → bit_at (replicate n 0) j ≡ false)
seen_clear h n b = (rw (length-replicate {A = ℕ} n 0) b, zeros_unset n)

-- what a size has room for, with m modules and entries, y symbols and statements
pub room_of : (h : Header) (m y p n k : ℕ) → 3 * m + y ≤ p → 5 * m ≤ n → 2 * m + y + 63 * y ≤ 8 * k → h.modules ≤ m → h.symbols ≤ y → h.statements ≤ y → h.entries ≤ m
    → (3 * h.modules + h.symbols ≤ p) × (plan_size h ≤ n) × (2 * h.modules + h.statements + 63 * h.symbols ≤ 8 * k)
room_of h m y p n k a b c i j l o = (omega (arith, a, i, j), omega (arith, b, i, o), omega (arith, c, i, j, l))
