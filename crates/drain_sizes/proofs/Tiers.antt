-- The drain with partners of a size: arrays of zeros are long enough.
use Prim.Native.Nat.{ℕ, ◌+◌, ◌*◌, ◌≤◌}
use mathlib.Core.Path.{◌≡◌}
use native.Mathlib.Omega.{arith}
use lib.ListN.{length, get_or, replicate, length-replicate}
use Rattle.graph.proofs.tables_crate.Zeros.{zeros_everywhere}
use Rattle.graph.specs.graph_format_crate.declared.Header.{Header}

pub partners_long : (h : Header) (n : ℕ) → 3 * h.modules + h.symbols ≤ n → (3 * h.modules + h.symbols ≤ length (replicate {A = ℕ} n 0)) × ((i : ℕ) → get_or (replicate {A = ℕ} n 0) i 0 ≡ 0)
partners_long h n b = (omega (arith, length-replicate {A = ℕ} n 0, b), zeros_everywhere n)
