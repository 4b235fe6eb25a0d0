-- The run with partners and a plan of a size: arrays of zeros are long enough, and a size has room for the graphs that fit it.
use Prim.Native.Nat.{ℕ, ◌+◌, ◌*◌, ◌<◌, ◌≤◌}
use mathlib.Core.Path.{◌≡◌}
use native.Mathlib.Omega.{arith}
use lib.ListN.{length, get_or, replicate, length-replicate}
use Rattle.determine_side_effects.proofs.tables_crate.Zeros.{zeros_everywhere}
use Rattle.determine_side_effects.specs.graph_format_crate.declared.Header.{Header}
use Rattle.entry_order.specs.Plan.{plan_size}
use Rattle.run_parts.specs.Parts.{ScratchFits}

-- zeros for its partners, which are scratch words afterwards
pub partners_long : (h : Header) (n : ℕ) → 3 * h.modules + h.symbols ≤ n → ScratchFits h n
    → (3 * h.modules + h.symbols ≤ length (replicate {A = ℕ} n 0)) × ScratchFits h (length (replicate {A = ℕ} n 0)) × ((i : ℕ) → get_or (replicate {A = ℕ} n 0) i 0 ≡ 0)
partners_long h n b s = (rw (length-replicate {A = ℕ} n 0) b, rw (length-replicate {A = ℕ} n 0) s, zeros_everywhere n)

-- zeros for its plan
pub plan_long : (h : Header) (n : ℕ) → plan_size h ≤ n → n < 4294967296
    → (plan_size h ≤ length (replicate {A = ℕ} n 0)) × (length (replicate {A = ℕ} n 0) < 4294967296) × ((i : ℕ) → get_or (replicate {A = ℕ} n 0) i 0 ≡ 0)
plan_long h n b f = (rw (length-replicate {A = ℕ} n 0) b, rw (length-replicate {A = ℕ} n 0) f, zeros_everywhere n)

-- what a size has room for, with m modules and entries, y symbols and statements
pub room_of : (h : Header) (m y p n : ℕ) → 3 * m + y ≤ p → 5 * m ≤ n → h.modules ≤ m → h.symbols ≤ y → h.statements ≤ y → h.entries ≤ m
    → (3 * h.modules + h.symbols ≤ p) × ScratchFits h p × (plan_size h ≤ n)
room_of h m y p n a b i j k l = (omega (arith, a, i, j), record { chain = omega (arith, a, i, l); kept = omega (arith, a, i, k) }, omega (arith, b, i, l))
