-- The first words of a row, numbered from 0 on.
use Prim.Native.Nat.{ℕ, ◌+◌, ◌-◌, ◌<◌, ◌≤◌}
use mathlib.Core.Path.{◌≡◌, ap, ◌∙◌}
use mathlib.Core.List.{List, ◌++◌}
use native.Mathlib.Omega.{arith}
use lib.ListN.{length, drop, set}
use Rattle.facts.specs.graph_access_crate.Words.{tabulate}
use Rattle.facts.proofs.Folds.{tabulate_next, tabulate-none}
use Rattle.keep_record.proofs.Rows.{tabulate-length}
use Rattle.entry_order.proofs.Filling.{Filling, fill_start, fill-same, fill_step, fill_end, fill_done}

module _ (count : ℕ) (plan₀ : List ℕ) where
  abbrev all : List ℕ
  all = tabulate (λ j. j) 0 count

  abbrev from : ℕ → List ℕ
  from e = tabulate (λ j. j) e (count - e)

  all-length : length all ≡ count
  all-length = tabulate-length (λ (j : ℕ). j) 0 count

  pub number_start : count ≤ length plan₀ → Filling 0 (tabulate (λ j. j) 0 count) plan₀ 0 (tabulate (λ j. j) 0 (count - 0)) plan₀
  number_start h =
      let l = all-length in
      let q : count ≡ count - 0 = omega arith in
      fill-same 0 all plan₀ 0 all plan₀ (fill_start 0 all plan₀ (omega (arith, l, h))) (from 0) (ap (λ (k : ℕ). tabulate (λ (j : ℕ). j) 0 k) q)

  module _ (e : ℕ) (plan : List ℕ) (f : Filling 0 (tabulate (λ j. j) 0 count) plan₀ e (tabulate (λ j. j) e (count - e)) plan) where
    pub number_step : e < count → Filling 0 (tabulate (λ j. j) 0 count) plan₀ (e + 1) (tabulate (λ j. j) (e + 1) (count - (e + 1))) (set plan e e)
    number_step h = fill_step 0 all plan₀ e (from e) plan f e (from (e + 1)) (tabulate_next (λ (j : ℕ). j) count e h)

    pub number-done : count ≤ e → plan ≡ tabulate (λ j. j) 0 count ++ drop count plan₀
    number-done h =
        let none = tabulate-none (λ (j : ℕ). j) count e h in
        let l = all-length in
        let q : e ≡ count = fill_end 0 all plan₀ e (from e) plan f none ∙ omega (arith, l) in
        fill_done 0 all plan₀ e (from e) plan f none ∙ ap (λ (k : ℕ). all ++ drop k plan₀) q
