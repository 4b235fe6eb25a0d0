-- Local arrays of zeros: no word of them is set, and those of a size hold the tables of its graphs.
use Prim.Native.Nat.{ℕ, ◌<◌, ◌≤◌}
use mathlib.Core.Path.{◌≡◌}
use native.Mathlib.Decide.{dec_lt}
use native.Mathlib.Omega.{arith}
use lib.ListN.{length, get_or, replicate, length-replicate, get_or-replicate, get_or-eq_default}
use Rattle.graph_format.specs.declared.Header.{Header}
use Rattle.tables.specs.declared.Size.{Size}
use Rattle.tables.specs.Layout.{start_of, FitsSize, all_sections}
use Rattle.tables.proofs.Sections.{words_in, fits_all}

pub zeros_everywhere : (n i : ℕ) → get_or (replicate {A = ℕ} n 0) i 0 ≡ 0
zeros_everywhere n i = go (dec_lt i n)
  where
    go : Dec (i < n) → get_or (replicate {A = ℕ} n 0) i 0 ≡ 0
    go (yes h) = get_or-replicate n i 0 0 h
    go (no h) = let l : length (replicate {A = ℕ} n 0) ≤ i = rw length-replicate (omega arith) in get_or-eq_default (replicate n 0) 0 l

pub tables_long : (h : Header) (size : Size) (n : ℕ) → words_in size ≡ n → n < 4294967296 → FitsSize h size
    → (start_of h all_sections ≤ length (replicate {A = ℕ} n 0)) × (length (replicate {A = ℕ} n 0) < 4294967296)
tables_long h size n e b f = let l = length-replicate {A = ℕ} n 0 in (omega (arith, l, e, fits_all h size f), omega (arith, l, b))
