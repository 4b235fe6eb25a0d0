-- The successors of a node, by its row.
use Prim.Native.Nat.{ℕ, ◌+◌, ◌-◌, ◌*◌, ◌<◌, ◌≤◌}
use mathlib.Core.Path.{◌≡◌, ap, ◌∙◌, sym}
use mathlib.Core.List.{List, [], ◌∷◌}
use native.Mathlib.Omega.{arith}
use borrow.Author.Tests.{lt-ltb}
use lib.ListN.{get_or}
use Rattle.graph_access.specs.Words.{tabulate}
use Rattle.entry_graph.specs.Memory.{row_of, succs_in}
use Rattle.cycles.proofs.Steps.{tabulate-first, tabulate_over}

-- the successors from the k-th on
unfoldable pub succs_from : ℕ → List ℕ → List ℕ → ℕ → ℕ → List ℕ
succs_from cap outs succs t k = tabulate (λ j. get_or succs (t * cap + j) 0) k (get_or outs t 0 - 1 - k)

module _ (cap : ℕ) (outs succs : List ℕ) (t : ℕ) where
  pub succs_all : (modules : ℕ) → t < modules → succs_in modules cap outs succs t ≡ succs_from cap outs succs t 0
  unfolding succs_in row_of succs_from
  succs_all modules h =
      let e : get_or outs t 0 - 1 ≡ get_or outs t 0 - 1 - 0 = omega arith in
      rw (lt-ltb t modules h, succs_in) (ap (λ (n : ℕ). tabulate (λ j. get_or succs (t * cap + j) 0) 0 n) e)

  pub succs_turn : (k u : ℕ) → k + 1 < get_or outs t 0 → u ≡ get_or succs (t * cap + k) 0 → succs_from cap outs succs t k ≡ u ∷ succs_from cap outs succs t (k + 1)
  unfolding succs_from
  succs_turn k u h e =
      tabulate-first (λ j. get_or succs (t * cap + j) 0) k (get_or outs t 0 - 1) (omega arith)
      ∙ ap (λ (x : ℕ). x ∷ tabulate (λ j. get_or succs (t * cap + j) 0) (k + 1) (get_or outs t 0 - 1 - (k + 1))) (sym e)

  pub succs_over : (k : ℕ) → get_or outs t 0 ≤ k + 1 → succs_from cap outs succs t k ≡ []
  unfolding succs_from
  succs_over k h = tabulate_over (λ j. get_or succs (t * cap + j) 0) k (get_or outs t 0 - 1) (omega arith)
