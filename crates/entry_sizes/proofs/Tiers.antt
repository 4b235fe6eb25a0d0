-- The rows of a tier: local arrays of zeros are long enough, and hold no graph yet.
use Prim.Native.Nat.{ℕ, ◌+◌, ◌*◌, ◌≤◌}
use mathlib.Core.Path.{◌≡◌}
use mathlib.Core.Bool.{Bool, true, ◌&&◌}
use mathlib.Core.List.{List}
use native.Mathlib.Nat.{mul-le-mul, mul-le-mul_right}
use native.Mathlib.Omega.{arith}
use borrow.Author.Tests.{leb-true}
use lib.Dec.{leb}
use lib.ListN.{length, replicate, length-replicate}
use Rattle.bit_row.proofs.Cleared.{zeros_unset}
use Rattle.determine_side_effects.specs.graph_format_crate.declared.Header.{Header}
use Rattle.determine_side_effects.proofs.tables_crate.Zeros.{zeros_everywhere}
use Rattle.determine_side_effects.specs.graph_tables_crate.Tables.{header_in}
use Rattle.determine_side_effects.proofs.Lists.{both}
use Rattle.entry_graph.specs.Memory.{Stored}
use Rattle.entry_graph.proofs.Entries.{stored_none}

-- what the ordering asks of its rows, with M modules and E entries, both at most `limit`
module _ (M E cap limit : ℕ) (h : M ≤ limit) (k : E ≤ limit) (few : limit ≤ 1024) (cap_few : cap ≤ 1024) where
  pub rows_ready : (v a b c d o p q : ℕ) → limit ≤ 8 * v → limit ≤ a → limit ≤ b → limit * cap ≤ c → limit * limit ≤ 8 * d → limit ≤ o → limit + limit ≤ p → limit ≤ q
      → (Stored M cap (replicate a 0) 0 (replicate b 0) (replicate c 0) (replicate d 0) × (M ≤ 8 * length (replicate {A = ℕ} v 0)))
      × ((M ≤ length (replicate {A = ℕ} o 0)) × (M + E ≤ length (replicate {A = ℕ} p 0)) × (E ≤ length (replicate {A = ℕ} q 0)))
  rows_ready v a b c d o p q lv la lb lc ld lo lp lq =
      let ev = length-replicate {A = ℕ} v 0 in
      let ea = length-replicate {A = ℕ} a 0 in
      let eb = length-replicate {A = ℕ} b 0 in
      let ec = length-replicate {A = ℕ} c 0 in
      let ed = length-replicate {A = ℕ} d 0 in
      let eo = length-replicate {A = ℕ} o 0 in
      let ep = length-replicate {A = ℕ} p 0 in
      let eq = length-replicate {A = ℕ} q 0 in
      let mc = mul-le-mul_right cap h in
      let md = mul-le-mul h h in (
        (
          stored_none M cap (replicate a 0) (replicate b 0) (replicate c 0) (replicate d 0) (omega (arith, h, few)) cap_few (omega (arith, ea, la, h)) (omega (arith, eb, lb, h)) (omega (arith, ec, lc, mc))
              (omega (arith, ed, ld, md)) (λ u l. zeros_everywhere b u) (λ j l. zeros_unset d j),
          omega (arith, ev, lv, h),
        ),
        (omega (arith, eo, lo, h), omega (arith, ep, lp, h, k), omega (arith, eq, lq, k)),
      )

-- a graph within a limit
pub within : (numbers : List ℕ) (h : Header) → h ≡ header_in numbers → (limit : ℕ) (r : Bool) → r ≡ (leb h.modules limit && leb h.entries limit) → r ≡ true
    → ((header_in numbers).modules ≤ limit) × ((header_in numbers).entries ≤ limit)
within numbers h is limit r e t =
    let b = both (leb h.modules limit) (leb h.entries limit) (cc) in
    let l : (h.modules ≤ limit) × (h.entries ≤ limit) = (leb-true h.modules limit b.0, leb-true h.entries limit b.1) in
    rw is at l
