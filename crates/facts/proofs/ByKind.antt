-- A fact by its kind.
use Prim.Native.Nat.{ℕ}
use mathlib.Core.Path.{◌≡◌}
use mathlib.Core.Logic.{◌≢◌}
use borrow.Author.Tests.{ne_eqb}
use Rattle.facts.specs.Facts.{fact_of, module_fact, statement_fact, use_fact, checked_fact, forward_fact, bailout_fact}

module _ (k a b : ℕ) where
  pub fact_1 : k ≡ 1 → module_fact a ≡ fact_of k a b
  unfolding fact_of
  fact_1 e = rw e

  pub fact_2 : k ≡ 2 → statement_fact a b ≡ fact_of k a b
  unfolding fact_of
  fact_2 e = rw e

  pub fact_3 : k ≡ 3 → use_fact a b ≡ fact_of k a b
  unfolding fact_of
  fact_3 e = rw e

  pub fact_4 : k ≡ 4 → checked_fact a b ≡ fact_of k a b
  unfolding fact_of
  fact_4 e = rw e

  pub fact_5 : k ≡ 5 → forward_fact a ≡ fact_of k a b
  unfolding fact_of
  fact_5 e = rw e

  pub fact_6 : k ≢ 1 → k ≢ 2 → k ≢ 3 → k ≢ 4 → k ≢ 5 → bailout_fact a ≡ fact_of k a b
  unfolding fact_of
  fact_6 p q r s t = rw (ne_eqb k 1 p, ne_eqb k 2 q, ne_eqb k 3 r, ne_eqb k 4 s, ne_eqb k 5 t, fact_of)
