-- The forwards of a symbol.
use Prim.Native.Nat.{ℕ, ◌+◌, ◌-◌, ◌<◌}
use mathlib.Core.Path.{◌≡◌, ap}
use mathlib.Core.List.{[]}
use native.Mathlib.Omega.{arith}
use borrow.Author.Tests.{eq-eqb, ne_eqb}
use lib.ListN.{length, get_or}
use Rattle.determine_side_effects.specs.graph_crate.Check.{Graph}
use Rattle.determine_side_effects.specs.graph_access_crate.Names.{only, export_chain}
use Rattle.determine_side_effects.specs.facts_crate.Facts.{forward_fact}
use Rattle.determine_side_effects.specs.graph_access_crate.Words.{symbol_of}
use Rattle.keep_rules.specs.Rules.{forwards, forward_candidate}
use Rattle.keep_rules.specs.declared.Candidate.TheVariants.{Gives}

module _ (g : Graph) (s : ℕ) where
  -- the forwards are counted by the chain
  pub forwards_are : {n : ℕ} → n ≡ length (export_chain (symbol_of g s)) → 1 + n ≡ forwards g s
  unfolding forwards
  forwards_are e = ap (λ x. 1 + x) e

  pub forward_first : (k : ℕ) → k ≡ 0 → Gives (forward_fact s) ≡ forward_candidate g s k
  unfolding forward_candidate
  forward_first k e = rw (eq-eqb k 0 e, forward_candidate)

  -- forward k, from 1 on, is in the chain
  module _ (k : ℕ) (n : k ≡ 0 → ⊥) where
    pub forward_in : k < forwards g s → k - 1 < length (export_chain (symbol_of g s))
    unfolding forwards
    forward_in l = omega (arith, n, l)

    pub forward-next : {f : ℕ} → f ≡ only (get_or (export_chain (symbol_of g s)) (k - 1) []) → Gives (forward_fact f) ≡ forward_candidate g s k
    unfolding forward_candidate
    forward-next e = rw (ne_eqb k 0 n, forward_candidate, e)
