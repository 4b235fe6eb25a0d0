-- K3 to K6: dependencies, and what eval, CommonJS exports and dev mode keep.
use Prim.Native.Nat.{ℕ, ◌<◌, ◌≤◌}
use mathlib.Core.Path.{◌≡◌, refl, ap, ◌∙◌, sym}
use mathlib.Core.Bool.{Bool, true, false, ◌&&◌, ◌||◌, not}
use mathlib.Core.List.{List, []}
use borrow.Author.Tests.{eq-eqb, ne_eqb, lt-ltb, le-ltb}
use native.Mathlib.Omega.{arith}
use lib.Dec.{eqb, ltb}
use lib.ListN.{length, get_or}
use Rattle.determine_side_effects.specs.graph_crate.Check.{Graph}
use Rattle.determine_side_effects.specs.graph_access_crate.Names.{exports, module_type, flags, only, named_imports, common_js_export_symbols, dependencies}
use Rattle.determine_side_effects.specs.facts_crate.Facts.{module_fact, statement_fact, checked_fact}
use Rattle.determine_side_effects.specs.graph_access_crate.Words.{flag, normal, option, module_of}
use Rattle.determine_side_effects.specs.Effects.{has_effects}
use Rattle.keep_rules.specs.declared.Candidate.TheVariants.{Gives, Nothing}
use Rattle.keep_rules.specs.Rules.{when, has_eval, dependency, dependency_candidate, eval_candidates, eval_candidate, export_symbol_candidate, dev_namespace, dev_candidate}

-- the dependency is d
module _ (g : Graph) (v : List ℕ) (m k d : ℕ) (e : d ≡ only (get_or (dependencies (module_of g m)) k [])) where
  included : ℕ → Bool
  included x = normal g x && (not (option g 0) || has_effects v x)

  same : when (included d) (module_fact d) ≡ dependency_candidate g v m k
  unfolding included dependency_candidate dependency
  same = ap (λ x. when (included x) (module_fact x)) e

  pub dependency_external : normal g d ≡ false → Nothing ≡ dependency_candidate g v m k
  unfolding included when
  dependency_external a = rw (a, included, when) at same

  pub dependency_whole : normal g d ≡ true → option g 0 ≡ false → Gives (module_fact d) ≡ dependency_candidate g v m k
  unfolding included when
  dependency_whole a b = rw (a, b, included, when) at same

  pub dependency_effects : normal g d ≡ true → option g 0 ≡ true → has_effects v d ≡ true → Gives (module_fact d) ≡ dependency_candidate g v m k
  unfolding included when
  dependency_effects a b c = rw (a, b, c, included, when) at same

  pub dependency_quiet : normal g d ≡ true → option g 0 ≡ true → has_effects v d ≡ false → Nothing ≡ dependency_candidate g v m k
  unfolding included when
  dependency_quiet a b c = rw (a, b, c, included, when) at same

-- the module's flags and its type
module _ (g : Graph) (m x : ℕ) (e : x ≡ flags (module_of g m)) where
  eval : {b : Bool} → flag 0 x ≡ b → has_eval g m ≡ b
  unfolding has_eval
  eval h = ap (flag 0) (sym e) ∙ h

  pub no_eval : flag 0 x ≡ false → 0 ≡ eval_candidates g m
  unfolding eval_candidates
  no_eval a = rw (eval a, eval_candidates)

  module _ (t : ℕ) (f : t ≡ module_type (module_of g m)) (a : flag 0 x ≡ true) where
    pub eval-all : {n : ℕ} → t < 2 → n ≡ length (named_imports (module_of g m)) → n ≡ eval_candidates g m
    unfolding eval_candidates
    eval-all l h = h ∙ rw (eval a, lt-ltb (module_type (module_of g m)) 2 (omega (arith, f, l)), eval_candidates)

    pub eval-none : 2 ≤ t → 0 ≡ eval_candidates g m
    unfolding eval_candidates
    eval-none l = rw (eval a, le-ltb (module_type (module_of g m)) 2 (omega (arith, f, l)), eval_candidates)

-- a place is an import
pub eval_in : (g : Graph) (m k : ℕ) → k < eval_candidates g m → k < length (named_imports (module_of g m))
unfolding eval_candidates
eval_in g m k h = go (has_eval g m && ltb (module_type (module_of g m)) 2) refl
  where
    go : (b : Bool) → has_eval g m && ltb (module_type (module_of g m)) 2 ≡ b → k < length (named_imports (module_of g m))
    go true e = rw (e, eval_candidates) at h
    go false e = absurd (omega (arith, rw (e, eval_candidates) at h))

pub eval_is : (g : Graph) (m k s : ℕ) → s ≡ only (get_or (named_imports (module_of g m)) k []) → Gives (checked_fact s 1) ≡ eval_candidate g m k
unfolding eval_candidate
eval_is g m k s e = ap (λ x. Gives (checked_fact x 1)) e

pub export_is : (g : Graph) (m k s : ℕ) → s ≡ only (get_or (common_js_export_symbols (module_of g m)) k []) → Gives (checked_fact s 1) ≡ export_symbol_candidate g m k
unfolding export_symbol_candidate
export_is g m k s e = ap (λ x. Gives (checked_fact x 1)) e

module _ (g : Graph) (m : ℕ) where
  pub not_dev : option g 4 ≡ false → false ≡ dev_namespace g m
  unfolding dev_namespace
  not_dev a = rw (a, dev_namespace)

  module _ (r : ℕ) (f : r ≡ g.header.runtime) (a : option g 4 ≡ true) where
    pub dev-runtime : m ≡ r → false ≡ dev_namespace g m
    unfolding dev_namespace
    dev-runtime z = rw (a, eq-eqb m g.header.runtime (z ∙ f), dev_namespace)

    pub dev-other : {x : ℕ} → (m ≡ r → ⊥) → x ≡ exports (module_of g m) → eqb x 0 ≡ dev_namespace g m
    unfolding dev_namespace
    dev-other z h = ap (λ y. eqb y 0) h ∙ rw (a, ne_eqb m g.header.runtime (λ i. z (i ∙ sym f)), dev_namespace)

  pub dev_kept : (k : ℕ) → dev_namespace g m ≡ true → Gives (statement_fact m 0) ≡ dev_candidate g m k
  unfolding dev_candidate when
  dev_kept k e = rw (e, dev_candidate, when)

  pub dev_left : (k : ℕ) → dev_namespace g m ≡ false → Nothing ≡ dev_candidate g m k
  unfolding dev_candidate when
  dev_left k e = rw (e, dev_candidate, when)

  pub dev_any : (j k : ℕ) → dev_candidate g m j ≡ dev_candidate g m k
  unfolding dev_candidate
  dev_any j k = refl
