-- The sources of edges to a node, by the bits of its row.
use Prim.Native.Nat.{ℕ, zero, suc, ◌+◌, ◌-◌, ◌*◌, ◌/◌, ◌%◌, ◌<◌, ◌≤◌}
use mathlib.Core.Path.{◌≡◌, refl, ap, ◌∙◌, sym}
use mathlib.Core.Bool.{Bool, true, false}
use mathlib.Core.List.{List, [], ◌∷◌}
use native.Mathlib.Omega.{arith}
use borrow.Author.Tests.{ltb-true, ltb-false, lt-ltb}
use lib.Dec.{ltb}
use lib.ListN.{get_or}
use Rattle.bit_row.specs.Row.{bit_at}
use Rattle.bit_row.proofs.Number.{bit_of_zero}
use Rattle.graph_access.specs.Words.{tabulate}
use Rattle.entry_order.specs.Order.{those}
use Rattle.cycles.specs.Walked.{preds_in, NextSource}
use Rattle.cycles.proofs.Steps.{tabulate-first, tabulate_over}

-- ---- bits

-- of a byte that is 0 no bit is set
pub byte_clear : (row : List ℕ) (i k : ℕ) → get_or row (i / 8) 0 ≡ 0 → k < 8 - i % 8 → bit_at row (i + k) ≡ false
unfolding bit_at
byte_clear row i k z h = let e : (i + k) / 8 ≡ i / 8 = omega arith in rw (e, z, bit_of_zero ((i + k) % 8))

pub one_clear : (row : List ℕ) (i k : ℕ) → bit_at row i ≡ false → k < 1 → bit_at row (i + k) ≡ false
one_clear row i k b h = let e : i + k ≡ i = omega arith in rw e b

-- what is passed stays clear
pub passed_more : (row : List ℕ) (base from u n : ℕ) → ((j : ℕ) → from ≤ j → j < u → bit_at row (base + j) ≡ false) → ((k : ℕ) → k < n → bit_at row (base + u + k) ≡ false)
    → (j : ℕ) → from ≤ j → j < u + n → bit_at row (base + j) ≡ false
passed_more row base from u n f h j a b = go (ltb j u) refl
  where
    go : (t : Bool) → ltb j u ≡ t → bit_at row (base + j) ≡ false
    go true e = f j a (ltb-true j u e)
    go false e =
        let l = ltb-false j u e in
        let q : base + u + (j - u) ≡ base + j = omega (arith, l) in
        rw q at (h (j - u) (omega (arith, l)))

-- ---- lists

passed_over : (test : ℕ → Bool) (d i n r : ℕ) → i + d ≡ r → r ≤ n → ((u : ℕ) → i ≤ u → u < r → test u ≡ false)
    → those test (tabulate (λ u. u) i (n - i)) ≡ those test (tabulate (λ u. u) r (n - r))
unfolding those
passed_over test zero i n r e l f = let q : i ≡ r = omega arith in ap (λ (x : ℕ). those test (tabulate (λ u. u) x (n - x))) q
passed_over test (suc d) i n r e l f =
    let t : test i ≡ false = f i (omega arith) (omega arith) in
    let s : those test (tabulate (λ u. u) i (n - i)) ≡ those test (tabulate (λ u. u) (i + 1) (n - (i + 1))) = rw (tabulate-first (λ u. u) i n (omega arith), t, those) in
    s ∙ passed_over test d (i + 1) n r (omega arith) l (λ u a b. f u (omega arith) b)

-- the sources from u on
unfoldable pub sources_from : ℕ → List ℕ → ℕ → ℕ → List ℕ
sources_from modules edges t u = those (λ x. bit_at edges (t * modules + x)) (tabulate (λ x. x) u (modules - u))

module _ (modules : ℕ) (edges : List ℕ) (t : ℕ) where
  pub sources_all : t < modules → preds_in modules edges t ≡ sources_from modules edges t 0
  unfolding preds_in sources_from
  sources_all h =
      let e : modules ≡ modules - 0 = omega arith in
      rw (lt-ltb t modules h, preds_in) (ap (λ (n : ℕ). those (λ x. bit_at edges (t * modules + x)) (tabulate (λ x. x) 0 n)) e)

  pub sources_next : (from r : ℕ) → NextSource modules edges t from r → sources_from modules edges t r ≡ sources_from modules edges t from
  unfolding sources_from
  sources_next from r n = let a = n.after in sym (passed_over (λ x. bit_at edges (t * modules + x)) (r - from) from modules r (omega (arith, a)) n.inside n.passed)

  sources_here : (u : ℕ) → u < modules → bit_at edges (t * modules + u) ≡ true → sources_from modules edges t u ≡ u ∷ sources_from modules edges t (u + 1)
  unfolding sources_from those
  sources_here u h b = rw (tabulate-first (λ x. x) u modules h, b, those)

  pub sources_turn : (u r : ℕ) → u < modules → bit_at edges (t * modules + u) ≡ true → NextSource modules edges t (u + 1) r → sources_from modules edges t u ≡ u ∷ sources_from modules edges t r
  sources_turn u r h b n = sources_here u h b ∙ ap (λ (us : List ℕ). u ∷ us) (sym (sources_next (u + 1) r n))

  pub sources_over : (u : ℕ) → modules ≤ u → sources_from modules edges t u ≡ []
  unfolding sources_from those
  sources_over u h = rw (tabulate_over (λ x. x) u modules h)
