-- The forwards of a symbol: itself and its chain.
use Prim.Native.Nat.{ℕ, suc, ◌-◌, ◌<◌}
use mathlib.Core.Path.{◌≡◌, refl}
use native.Mathlib.Omega.{arith}
use borrow.Author.Tests.{eqb-false}
use lib.Dec.{eqb, eqb-suc-zero}
use Rattle.determine_side_effects.specs.graph_crate.Check.{Graph}
use Rattle.determine_side_effects.specs.facts_crate.declared.Fact.{Fact}
use Rattle.determine_side_effects.specs.facts_crate.Facts.{forward_fact}
use Rattle.keep_rules.specs.Rules.{forwards, forward_candidate}
use Rattle.rule_relation.specs.Relation.{Along, itself, chained}
use Rattle.rule_relation.proofs.Listing.{Only, only_fact, only_if, Picks}

pub less_one : (k : ℕ) → suc k - 1 ≡ k
less_one k = omega arith

pub less : {n k : ℕ} → n ≡ suc k → n - 1 ≡ k
less q = omega (arith, q)

module _ (g : Graph) (s : ℕ) where
  pub forward_only : {P : Fact → Type 0} (k : ℕ) → k < forwards g s → ((f : ℕ) → Along g s f → P (forward_fact f)) → Only P (forward_candidate g s k)
  unfolding forwards forward_candidate
  forward_only k u h = only_if (eqb k 0) (λ e. only_fact (h s itself)) (λ e. only_fact (h _ (chained (k - 1) (omega (arith, eqb-false k 0 e)))))

  -- the place of a forward
  pub record At (f : ℕ) : Type 0 where
    pub place : ℕ
    pub inside : place < forwards g s
    pub is : Picks (forward_candidate g s place) (forward_fact f)

  pub along_at : {f : ℕ} → Along g s f → At f
  unfolding forwards forward_candidate
  along_at itself = record { place = 0; inside = omega arith; is = refl }
  along_at (chained k l) = record { place = suc k; inside = omega (arith, l); is = rw (eqb-suc-zero k, less_one k, forward_candidate) }
