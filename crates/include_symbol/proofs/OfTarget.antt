-- K12 to K14: wrappers, declarations and writes.
use Prim.Native.Nat.{ℕ, ◌+◌, ◌-◌, ◌<◌, ◌≤◌}
use mathlib.Core.Path.{◌≡◌, refl, ap, ◌∙◌, sym}
use mathlib.Core.Bool.{Bool, true, false, ◌&&◌, not}
use mathlib.Core.List.{[]}
use native.Mathlib.Omega.{arith}
use borrow.Author.Tests.{eq-eqb, ne_eqb, lt-ltb, le-ltb, eqb-false}
use lib.Dec.{eqb}
use lib.ListN.{length, get_or}
use Rattle.determine_side_effects.specs.graph_crate.Check.{Graph}
use Rattle.determine_side_effects.specs.graph_access_crate.Names.{wrap, wrapper, owner, only, declaring_statements, written_property_statements}
use Rattle.determine_side_effects.specs.facts_crate.Facts.{module_fact, statement_fact, use_fact}
use Rattle.determine_side_effects.specs.graph_access_crate.Words.{flag, normal, option, module_of, symbol_of, statement_list}
use Rattle.linking_metadata.specs.Namespaces.{is_namespace}
use Rattle.keep_rules.specs.declared.Candidate.{Candidate}
use Rattle.keep_rules.specs.declared.Candidate.TheVariants.{Gives, Nothing}
use Rattle.keep_rules.specs.Rules.{when, forwards, forward_candidate, needs_wrapper, wrapper_candidates, wrapper_candidate, declaration_candidates, declaration_candidate, write_candidates, write_candidate}

-- the target's owner is o
module _ (g : Graph) (t o : ℕ) (e : o ≡ owner (symbol_of g t)) where
  by : Bool → Bool → Bool → Bool → Bool
  by usual esm none self = usual && (esm && (not none && not self))

  same : by (normal g o) (eqb (wrap (module_of g o)) 2) (eqb (wrapper (module_of g o)) 0) (eqb (wrapper (module_of g o)) (t + 1)) ≡ needs_wrapper g t
  unfolding needs_wrapper by
  same = ap (λ m. by (normal g m) (eqb (wrap (module_of g m)) 2) (eqb (wrapper (module_of g m)) 0) (eqb (wrapper (module_of g m)) (t + 1))) e

  pub of_external : normal g o ≡ false → false ≡ needs_wrapper g t
  unfolding by
  of_external a = rw (a, by) at same

  module _ (w : ℕ) (f : w ≡ wrap (module_of g o)) (a : normal g o ≡ true) where
    pub other-wrap : (w ≡ 2 → ⊥) → false ≡ needs_wrapper g t
    unfolding by
    other-wrap n = rw (a, ne_eqb (wrap (module_of g o)) 2 (λ i. n (f ∙ i)), by) at same

    module _ (r : ℕ) (h : r ≡ wrapper (module_of g o)) (z : w ≡ 2) where
      pub no-wrapper : r ≡ 0 → false ≡ needs_wrapper g t
      unfolding by
      no-wrapper n = rw (a, eq-eqb (wrap (module_of g o)) 2 (sym f ∙ z), eq-eqb (wrapper (module_of g o)) 0 (sym h ∙ n), by) at same

      pub the-wrapper : (r ≡ 0 → ⊥) → not (eqb r (t + 1)) ≡ needs_wrapper g t
      unfolding by
      the-wrapper n = ap (λ x. not (eqb x (t + 1))) h ∙ (rw (a, eq-eqb (wrap (module_of g o)) 2 (sym f ∙ z), ne_eqb (wrapper (module_of g o)) 0 (λ i. n (h ∙ i)), by) at same)

never : {A : Type 0} → false ≡ true → A
never e = absurd (eqb-false 0 0 (sym e) refl)

third : (a b c d : Bool) → a && (b && (not c && d)) ≡ true → c ≡ false
third true true false d p = refl
third true true true d p = sym p
third true false c d p = never p
third false b c d p = never p

-- a target that needs its wrapper has one
has_wrapper : (g : Graph) (t : ℕ) → needs_wrapper g t ≡ true → 0 < wrapper (module_of g (owner (symbol_of g t)))
unfolding needs_wrapper
has_wrapper g t h = let w : eqb (wrapper (module_of g (owner (symbol_of g t)))) 0 ≡ false = third (normal g (owner (symbol_of g t))) (eqb (wrap (module_of g (owner (symbol_of g t)))) 2) (eqb (wrapper (module_of g (owner (symbol_of g t)))) 0) (not (eqb (wrapper (module_of g (owner (symbol_of g t)))) (t + 1))) h in omega (arith, eqb-false (wrapper (module_of g (owner (symbol_of g t)))) 0 w)

module _ (g : Graph) (s t : ℕ) where
  pub wrapper_some : {n : ℕ} → needs_wrapper g t ≡ true → n ≡ forwards g s → 1 + n ≡ wrapper_candidates g s t
  unfolding wrapper_candidates
  wrapper_some e h = ap (λ x. 1 + x) h ∙ rw (e, wrapper_candidates)

  pub wrapper_none : needs_wrapper g t ≡ false → 0 ≡ wrapper_candidates g s t
  unfolding wrapper_candidates
  wrapper_none e = rw (e, wrapper_candidates)

  -- where there is a place
  wrapper_in : (k : ℕ) → k < wrapper_candidates g s t → (0 < wrapper (module_of g (owner (symbol_of g t)))) × (k < 1 + forwards g s)
  unfolding wrapper_candidates
  wrapper_in k h = go (needs_wrapper g t) refl
    where
      go : (b : Bool) → needs_wrapper g t ≡ b → (0 < wrapper (module_of g (owner (symbol_of g t)))) × (k < 1 + forwards g s)
      go true e = (has_wrapper g t e, rw (e, wrapper_candidates) at h)
      go false e = absurd (omega (arith, rw (e, wrapper_candidates) at h))

  pub wrapper_there : (k d o r : ℕ) → k < wrapper_candidates g s t → d ≡ t → o ≡ owner (symbol_of g d) → r ≡ wrapper (module_of g o) → 0 < r
  wrapper_there k d o r h i e f = omega (arith, (wrapper_in k h).0, f ∙ ap (λ m. wrapper (module_of g m)) (e ∙ ap (λ x. owner (symbol_of g x)) i))

  pub wrapper_rest : (k : ℕ) → k < wrapper_candidates g s t → (k ≡ 0 → ⊥) → k - 1 < forwards g s
  wrapper_rest k h z = omega (arith, (wrapper_in k h).1, z)

  -- the same of a target d
  pub wrapper_at : (d k : ℕ) {r : Candidate} → t ≡ d → r ≡ wrapper_candidate g s t k → r ≡ wrapper_candidate g s d k
  wrapper_at d k i h = h ∙ ap (λ x. wrapper_candidate g s x k) i

  pub wrapper_first : (k o r : ℕ) → k ≡ 0 → o ≡ owner (symbol_of g t) → r ≡ wrapper (module_of g o) → Gives (use_fact (r - 1) 1) ≡ wrapper_candidate g s t k
  unfolding wrapper_candidate
  wrapper_first k o r z e h = ap (λ x. Gives (use_fact (x - 1) 1)) (h ∙ ap (λ m. wrapper (module_of g m)) e) ∙ rw (eq-eqb k 0 z, wrapper_candidate)

  pub wrapper_next : (k : ℕ) {r : Candidate} → (k ≡ 0 → ⊥) → r ≡ forward_candidate g s (k - 1) → r ≡ wrapper_candidate g s t k
  unfolding wrapper_candidate
  wrapper_next k z h = h ∙ rw (ne_eqb k 0 z, wrapper_candidate)

pub declared_at : (g : Graph) (t x d k : ℕ) {r : Candidate} → t ≡ d → r ≡ declaration_candidate g t x k → r ≡ declaration_candidate g d x k
declared_at g t x d k i h = h ∙ ap (λ y. declaration_candidate g y x k) i

-- not both
left_false : (a b : Bool) → a ≡ false → a && b ≡ false
left_false a b e = rw e

right_false : (a b : Bool) → b ≡ false → a && b ≡ false
right_false true b e = e
right_false false b e = refl

module _ (g : Graph) (t o : ℕ) (e : o ≡ owner (symbol_of g t)) where
  usual : {b : Bool} → normal g o ≡ b → normal g (owner (symbol_of g t)) ≡ b
  usual h = ap (normal g) (sym e) ∙ h

  pub declared_all : {n : ℕ} → normal g o ≡ true → n ≡ length (declaring_statements (symbol_of g t)) → n + 1 ≡ declaration_candidates g t
  unfolding declaration_candidates
  declared_all a h = ap (λ x. x + 1) h ∙ rw (usual a, declaration_candidates)

  pub declared_none : normal g o ≡ false → 0 ≡ declaration_candidates g t
  unfolding declaration_candidates
  declared_none a = rw (usual a, declaration_candidates)

  -- where there is a place, the owner is normal
  pub declared_in : (k : ℕ) → k < declaration_candidates g t → normal g o ≡ true
  unfolding declaration_candidates
  declared_in k h = go (normal g (owner (symbol_of g t))) refl
    where
      go : (b : Bool) → normal g (owner (symbol_of g t)) ≡ b → normal g o ≡ true
      go true i = ap (normal g) e ∙ i
      go false i = absurd (omega (arith, rw (i, declaration_candidates) at h))

  module _ (x k n : ℕ) (h : n ≡ length (declaring_statements (symbol_of g t))) where
    pub declared-one : (i : ℕ) → k < n → i ≡ only (get_or (declaring_statements (symbol_of g t)) k []) → Gives (statement_fact o i) ≡ declaration_candidate g t x k
    unfolding declaration_candidate
    declared-one i l f = ap (λ m. Gives (statement_fact m i)) e ∙ ap (λ j. Gives (statement_fact (owner (symbol_of g t)) j)) f ∙ rw (lt-ltb k (length (declaring_statements (symbol_of g t))) (omega (arith, h, l)), declaration_candidate)

    pub declared-namespace : n ≤ k → is_namespace g t ≡ true → flag 4 x ≡ true → Nothing ≡ declaration_candidate g t x k
    unfolding declaration_candidate when
    declared-namespace l a b = rw (le-ltb k (length (declaring_statements (symbol_of g t))) (omega (arith, h, l)), a, b, declaration_candidate, when)

    owner-kept : n ≤ k → is_namespace g t && flag 4 x ≡ false → Gives (module_fact o) ≡ declaration_candidate g t x k
    unfolding declaration_candidate when
    owner-kept l a = ap (λ m. Gives (module_fact m)) e ∙ rw (le-ltb k (length (declaring_statements (symbol_of g t))) (omega (arith, h, l)), a, declaration_candidate, when)

    pub declared-owner : n ≤ k → flag 4 x ≡ false → Gives (module_fact o) ≡ declaration_candidate g t x k
    declared-owner l a = owner-kept l (right_false (is_namespace g t) (flag 4 x) a)

    pub declared-plain : n ≤ k → is_namespace g t ≡ false → Gives (module_fact o) ≡ declaration_candidate g t x k
    declared-plain l a = owner-kept l (left_false (is_namespace g t) (flag 4 x) a)

module _ (g : Graph) (s : ℕ) where
  pub no_writes : option g 3 ≡ false → 0 ≡ write_candidates g s
  unfolding write_candidates
  no_writes a = rw (a, write_candidates)

  module _ (o : ℕ) (e : o ≡ owner (symbol_of g s)) where
    pub writes-none : option g 3 ≡ true → normal g o ≡ false → 0 ≡ write_candidates g s
    unfolding write_candidates
    writes-none a b = let f : normal g (owner (symbol_of g s)) ≡ false = ap (normal g) (sym e) ∙ b in rw (a, f, write_candidates)

    pub writes-all : {n : ℕ} → option g 3 ≡ true → normal g o ≡ true → n ≡ length (written_property_statements (symbol_of g s)) → n ≡ write_candidates g s
    unfolding write_candidates
    writes-all a b h = let f : normal g (owner (symbol_of g s)) ≡ true = ap (normal g) (sym e) ∙ b in h ∙ rw (a, f, write_candidates)

    pub writes_one : (k i : ℕ) → i ≡ only (get_or (written_property_statements (symbol_of g s)) k []) → Gives (statement_fact o i) ≡ write_candidate g s k
    unfolding write_candidate
    writes_one k i f = ap (λ m. Gives (statement_fact m i)) e ∙ ap (λ j. Gives (statement_fact (owner (symbol_of g s)) j)) f

  pub write_in : (k : ℕ) → k < write_candidates g s → k < length (written_property_statements (symbol_of g s))
  unfolding write_candidates
  write_in k h = go (option g 3 && normal g (owner (symbol_of g s))) refl
    where
      go : (b : Bool) → option g 3 && normal g (owner (symbol_of g s)) ≡ b → k < length (written_property_statements (symbol_of g s))
      go true e = rw (e, write_candidates) at h
      go false e = absurd (omega (arith, rw (e, write_candidates) at h))

-- a statement of the owner
pub of_owner : (g : Graph) (o w i : ℕ) → o ≡ w → i < length (statement_list g w) → i < length (statement_list g o)
of_owner g o w i e h = omega (arith, h, ap (λ m. length (statement_list g m)) e)
