-- K8: the candidates of a reference and what each gives.
use Prim.Native.Nat.{ℕ, zero, suc, ◌+◌, ◌<◌, ◌≤◌}
use mathlib.Core.Path.{◌≡◌, refl, ap, ◌∙◌, sym}
use mathlib.Core.Bool.{Bool, true, false}
use mathlib.Core.Logic.{◌⊎◌, inl, inr}
use mathlib.Core.List.{List}
use native.Mathlib.Omega.{arith}
use borrow.Author.Tests.{eq-eqb, ne_eqb, lt-ltb, le-ltb, eqb-false}
use lib.Dec.{eqb}
use lib.ListN.{length, get_or}
use Rattle.determine_side_effects.specs.graph_crate.Check.{Graph}
use Rattle.determine_side_effects.specs.graph_access_crate.Names.{reference_kind, reference_symbol, reference_flag, depended_on}
use Rattle.determine_side_effects.specs.facts_crate.Facts.{use_fact, checked_fact, forward_fact}
use Rattle.keep_rules.specs.declared.Candidate.{Candidate}
use Rattle.keep_rules.specs.declared.Candidate.TheVariants.{Gives}
use Rattle.keep_rules.specs.Rules.{inlined, forwards, forward_candidate, plain_candidate, resolved_candidate, reference_candidates, reference_candidate}

three : (k : ℕ) → k < 4 → (k ≡ 0 → ⊥) → (k ≡ 1 → ⊥) → (k ≡ 2 → ⊥) → k ≡ 3
three zero l a b c = absurd (a refl)
three (suc zero) l a b c = absurd (b refl)
three (suc (suc zero)) l a b c = absurd (c refl)
three (suc (suc (suc k))) l a b c = omega (arith, l)

module _ (g : Graph) (row : List ℕ) (kind : ℕ) (e : kind ≡ reference_kind row) where
  is : (k : ℕ) → kind ≡ k → eqb (reference_kind row) k ≡ true
  is k h = eq-eqb (reference_kind row) k (sym e ∙ h)

  isn't : (k : ℕ) → (kind ≡ k → ⊥) → eqb (reference_kind row) k ≡ false
  isn't k h = ne_eqb (reference_kind row) k (λ z. h (e ∙ z))

  pub no_places : kind ≡ 1 → 0 ≡ reference_candidates g row
  unfolding reference_candidates
  no_places h = rw (isn't 0 (λ z. omega (arith, z, h)), is 1 h, reference_candidates)

  pub depended_places : {n : ℕ} → kind ≡ 2 → n ≡ length (depended_on row) → n + 1 ≡ reference_candidates g row
  unfolding reference_candidates
  depended_places h f = ap (λ x. x + 1) f ∙ rw (isn't 0 (λ z. omega (arith, z, h)), isn't 1 (λ z. omega (arith, z, h)), is 2 h, reference_candidates)

  pub inlined_places : kind ≡ 3 → inlined g row ≡ true → 0 ≡ reference_candidates g row
  unfolding reference_candidates
  inlined_places h a = rw (isn't 0 (λ z. omega (arith, z, h)), isn't 1 (λ z. omega (arith, z, h)), isn't 2 (λ z. omega (arith, z, h)), a, reference_candidates)

  pub plain_places : (s : ℕ) {n : ℕ} → (kind ≡ 1 → ⊥) → (kind ≡ 2 → ⊥) → kind < 4 → (inlined g row ≡ false) ⊎ (kind ≡ 3 → ⊥) → s ≡ reference_symbol row → n ≡ forwards g s → n + 1 ≡ reference_candidates g row
  unfolding reference_candidates
  plain_places s a b l w i f = ap (λ x. x + 1) (f ∙ ap (forwards g) i) ∙ go (eqb (reference_kind row) 0) refl w
    where
      go : (z : Bool) → eqb (reference_kind row) 0 ≡ z → (inlined g row ≡ false) ⊎ (kind ≡ 3 → ⊥) → forwards g (reference_symbol row) + 1 ≡ reference_candidates g row
      go true q w = rw (q, reference_candidates)
      go false q (inl n) = rw (q, isn't 1 a, isn't 2 b, n, reference_candidates)
      go false q (inr n) = absurd (n (three kind l (λ z. eqb-false (reference_kind row) 0 q (sym e ∙ z)) a b))

  pub pick_resolved : (x k : ℕ) {r : Candidate} → kind ≡ 2 → r ≡ resolved_candidate row x k → r ≡ reference_candidate g x row k
  unfolding reference_candidate
  pick_resolved x k h f = f ∙ rw (is 2 h, reference_candidate)

  -- another kind
  module _ (s x k n : ℕ) (h : kind ≡ 2 → ⊥) (i : s ≡ reference_symbol row) (f : n ≡ forwards g s) where
    counted : n ≡ forwards g (reference_symbol row)
    counted = f ∙ ap (forwards g) i

    pub pick-forward : {r : Candidate} → k < n → r ≡ forward_candidate g s k → r ≡ reference_candidate g x row k
    unfolding reference_candidate plain_candidate
    pick-forward l w = w ∙ ap (λ y. forward_candidate g y k) i ∙ rw (isn't 2 h, lt-ltb k (forwards g (reference_symbol row)) (omega (arith, counted, l)), reference_candidate, plain_candidate)

    pub pick-checked : (y : ℕ) → n ≤ k → y ≡ x → Gives (checked_fact s y) ≡ reference_candidate g x row k
    unfolding reference_candidate plain_candidate
    pick-checked y l w =
        ap (λ u. Gives (checked_fact s u)) w ∙ ap (λ u. Gives (checked_fact u x)) i
        ∙ rw (isn't 2 h, le-ltb k (forwards g (reference_symbol row)) (omega (arith, counted, l)), reference_candidate, plain_candidate)

module _ (row : List ℕ) (x k n : ℕ) (e : n ≡ length (depended_on row)) where
  pub resolved_forward : (f : ℕ) → k < n → f ≡ get_or (depended_on row) k 0 → Gives (forward_fact f) ≡ resolved_candidate row x k
  unfolding resolved_candidate
  resolved_forward f l i = ap (λ u. Gives (forward_fact u)) i ∙ rw (lt-ltb k (length (depended_on row)) (omega (arith, e, l)), resolved_candidate)

  module _ (s y t : ℕ) (l : n ≤ k) (i : s ≡ reference_symbol row) (j : y ≡ x) (f : t ≡ reference_flag row) where
    pub resolved-use : t ≡ 1 → Gives (use_fact s y) ≡ resolved_candidate row x k
    unfolding resolved_candidate
    resolved-use z =
        ap (λ u. Gives (use_fact s u)) j ∙ ap (λ u. Gives (use_fact u x)) i
        ∙ rw (le-ltb k (length (depended_on row)) (omega (arith, e, l)), eq-eqb (reference_flag row) 1 (sym f ∙ z), resolved_candidate)

    pub resolved-checked : (t ≡ 1 → ⊥) → Gives (checked_fact s y) ≡ resolved_candidate row x k
    unfolding resolved_candidate
    resolved-checked z =
        ap (λ u. Gives (checked_fact s u)) j ∙ ap (λ u. Gives (checked_fact u x)) i
        ∙ rw (le-ltb k (length (depended_on row)) (omega (arith, e, l)), ne_eqb (reference_flag row) 1 (λ u. z (f ∙ u)), resolved_candidate)
