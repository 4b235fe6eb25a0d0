-- K9: the use, then the bailouts.
use Prim.Native.Nat.{ℕ, ◌-◌}
use mathlib.Core.Path.{◌≡◌, ap, ◌∙◌, sym}
use mathlib.Core.Bool.{Bool, true, false}
use borrow.Author.Tests.{eq-eqb, ne_eqb}
use lib.Dec.{eqb}
use Rattle.determine_side_effects.specs.graph_crate.Check.{Graph}
use Rattle.determine_side_effects.specs.graph_access_crate.Names.{owner, alias_namespace, alias_name}
use Rattle.determine_side_effects.specs.graph_access_crate.Words.{root_of, symbol_of}
use Rattle.determine_side_effects.specs.facts_crate.Facts.{use_fact, bailout_fact}
use Rattle.linking_metadata.specs.Namespaces.{common_js_of, is_namespace}
use Rattle.keep_rules.specs.declared.Candidate.{Candidate}
use Rattle.keep_rules.specs.declared.Candidate.TheVariants.{Gives, Nothing}
use Rattle.keep_rules.specs.Rules.{when, bailout_candidate, default_alias, checked_candidate}

pub bailout_none : (n : ℕ) → n ≡ 0 → Nothing ≡ bailout_candidate n
unfolding bailout_candidate
bailout_none n e = rw (eq-eqb n 0 e, bailout_candidate)

pub bailout_some : (n : ℕ) → (n ≡ 0 → ⊥) → Gives (bailout_fact (n - 1)) ≡ bailout_candidate n
unfolding bailout_candidate
bailout_some n e = rw (ne_eqb n 0 e, bailout_candidate)

-- the root's alias namespace is a
module _ (g : Graph) (root a : ℕ) (e : a ≡ alias_namespace (symbol_of g root)) where
  pub alias_none : a ≡ 0 → Nothing ≡ default_alias g root
  unfolding default_alias
  alias_none z = rw (eq-eqb _ 0 (sym e ∙ z), default_alias)

  some : (a ≡ 0 → ⊥) → eqb (alias_namespace (symbol_of g root)) 0 ≡ false
  some n = ne_eqb _ 0 (λ z. n (e ∙ z))

  pub alias_other : (name : ℕ) → name ≡ alias_name (symbol_of g root) → (a ≡ 0 → ⊥) → (name ≡ 0 → ⊥) → Nothing ≡ default_alias g root
  unfolding default_alias
  alias_other name f n o = rw (some n, ne_eqb _ 0 (λ z. o (f ∙ z)), default_alias)

  pub alias_default : (name : ℕ) {n : ℕ} {r : Candidate} → name ≡ alias_name (symbol_of g root) → (a ≡ 0 → ⊥) → name ≡ 0 → n ≡ common_js_of g (a - 1) → r ≡ bailout_candidate n → r ≡ default_alias g root
  unfolding default_alias
  alias_default name f n z i h = h ∙ ap bailout_candidate (i ∙ ap (λ b. common_js_of g (b - 1)) e) ∙ rw (some n, eq-eqb _ 0 (sym f ∙ z), default_alias)

module _ (g : Graph) (s x k : ℕ) where
  pub checked_use : k ≡ 0 → Gives (use_fact s x) ≡ checked_candidate g s x k
  unfolding checked_candidate
  checked_use z = rw (eq-eqb k 0 z, checked_candidate)

  module _ (root : ℕ) (i : root ≡ root_of g.symbols s) (n0 : k ≡ 0 → ⊥) where
    pub checked-root : {n : ℕ} {r : Candidate} → k ≡ 1 → n ≡ common_js_of g root → r ≡ bailout_candidate n → r ≡ checked_candidate g s x k
    unfolding checked_candidate
    checked-root z f h = h ∙ ap bailout_candidate (f ∙ ap (common_js_of g) i) ∙ rw (ne_eqb k 0 n0, eq-eqb k 1 z, checked_candidate)

    is : {b t : Bool} → b ≡ is_namespace g root → b ≡ t → is_namespace g (root_of g.symbols s) ≡ t
    is f t = ap (is_namespace g) (sym i) ∙ sym f ∙ t

    pub checked-namespace : {b : Bool} {o : ℕ} → (k ≡ 1 → ⊥) → k ≡ 2 → b ≡ is_namespace g root → b ≡ true → o ≡ owner (symbol_of g root) → Gives (bailout_fact o) ≡ checked_candidate g s x k
    unfolding checked_candidate when
    checked-namespace n1 z f t w = ap (λ m. Gives (bailout_fact m)) (w ∙ ap (λ r. owner (symbol_of g r)) i) ∙ rw (ne_eqb k 0 n0, ne_eqb k 1 n1, eq-eqb k 2 z, checked_candidate, is f t, when)

    pub checked-plain : {b : Bool} → (k ≡ 1 → ⊥) → k ≡ 2 → b ≡ is_namespace g root → b ≡ false → Nothing ≡ checked_candidate g s x k
    unfolding checked_candidate when
    checked-plain n1 z f t = rw (ne_eqb k 0 n0, ne_eqb k 1 n1, eq-eqb k 2 z, checked_candidate, is f t, when)

    pub checked-alias : {r : Candidate} → (k ≡ 1 → ⊥) → (k ≡ 2 → ⊥) → r ≡ default_alias g root → r ≡ checked_candidate g s x k
    unfolding checked_candidate
    checked-alias n1 n2 h = h ∙ ap (default_alias g) i ∙ rw (ne_eqb k 0 n0, ne_eqb k 1 n1, ne_eqb k 2 n2, checked_candidate)
