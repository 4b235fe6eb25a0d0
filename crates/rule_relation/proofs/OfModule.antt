-- K2 to K6, from a module.
use Prim.Native.Nat.{ℕ, ◌<◌, ◌≤◌}
use mathlib.Core.Path.{◌≡◌, refl}
use mathlib.Core.Logic.{◌⊎◌, inl, inr, ⊎_elim}
use mathlib.Core.Bool.{Bool, true, false, ◌&&◌, ◌||◌, not}
use mathlib.Core.List.{List, []}
use native.Mathlib.Omega.{arith}
use lib.Dec.{eqb, ltb}
use lib.ListN.{length, get_or}
use Rattle.determine_side_effects.specs.graph_crate.Check.{Graph}
use Rattle.determine_side_effects.specs.graph_access_crate.Names.{exports, module_type, flags, dependencies, named_imports, common_js_export_symbols, only}
use Rattle.determine_side_effects.specs.graph_access_crate.Words.{flag, module_of, statement_list, normal, option}
use Rattle.determine_side_effects.specs.facts_crate.Facts.{module_fact, statement_fact, checked_fact}
use Rattle.determine_side_effects.specs.Effects.{has_effects}
use Rattle.on_demand.specs.Demand.{on_demand, gated}
use Rattle.keep_rules.specs.Rules.{quiet_runtime, has_eval, effect_bit, swept_shaken, swept_whole, swept, sweep_candidate, dependency, dependency_candidate, eval_candidates, eval_candidate, export_symbol_candidate, dev_namespace, dev_candidate, module_segments}
use Rattle.rule_relation.specs.Relation.{Sweeps, Shaken, Body, bits_at, ByUnknown, Effect, Waits, Eval, Gives}
use Rattle.rule_relation.specs.Relation.{unknown, plain, K2_effect, K2_eval, K2_unforced, K2_forced, K3_effects, K3_whole, K4, K5, K6}
use Rattle.rule_relation.proofs.Tests.{Says, says_as, says_it, says_equal, says_less, says_false, says_not, says_both, says_either, says_if_and, says_by, denies}
use Rattle.rule_relation.proofs.Listing.{Only, only_fact, only_when, Picks, when_true, first, counted, counts, OnlySegments, Offered, here, there}

-- the tests
module _ (g : Graph) (v : List ℕ) (m : ℕ) where
  pub says_no_quiet_runtime : Says (not (quiet_runtime g v m)) (m ≡ g.header.runtime → has_effects v m ≡ true)
  unfolding quiet_runtime
  says_no_quiet_runtime = says_if_and (says_equal m g.header.runtime) (says_it (has_effects v m))

  says_shaken : Says (option g 0 && not (eqb (get_or v m 0) 4)) (Shaken g v m)
  says_shaken = says_as (says_both (says_it (option g 0)) (says_not (says_equal (get_or v m 0) 4))) (λ x. record { on = x.0; may = x.1 }) (λ x. (x.on, x.may))

  says_by_unknown : Says (flag 1 (flags (module_of g m)) && option g 2) (ByUnknown g m)
  says_by_unknown = says_as (says_both (says_it (flag 1 (flags (module_of g m)))) (says_it (option g 2))) (λ x. record { safely = x.0; shakes = x.1 }) (λ x. (x.safely, x.shakes))

  says_eval : Says (has_eval g m && ltb (module_type (module_of g m)) 2) (Eval g m × (module_type (module_of g m) ≤ 1))
  unfolding has_eval
  says_eval = says_both (says_it (has_eval g m)) (says_as (says_less (module_type (module_of g m)) 2) (λ l. omega (arith, l)) (λ l. omega (arith, l)))

  says_dev : Says (dev_namespace g m) ((option g 4 ≡ true) × ((m ≡ g.header.runtime → ⊥) × (exports (module_of g m) ≡ 0)))
  unfolding dev_namespace
  says_dev = says_both (says_it (option g 4)) (says_both (says_not (says_equal m g.header.runtime)) (says_equal (exports (module_of g m)) 0))

  says_effect : (i : ℕ) → Says (flag (effect_bit g m) (bits_at g m i)) (Effect g m i)
  unfolding effect_bit
  says_effect i = go (flag 1 (flags (module_of g m)) && option g 2) refl
    where
      plainly : (ByUnknown g m → ⊥) → Effect g m i → flag 0 (bits_at g m i) ≡ true
      plainly h (unknown x e) = absurd (h x)
      plainly h (plain x e) = e

      unknowns : ByUnknown g m → Effect g m i → flag 1 (bits_at g m i) ≡ true
      unknowns h (unknown x e) = e
      unknowns h (plain x e) = absurd (x h)

      go : (b : Bool) → (flag 1 (flags (module_of g m)) && option g 2) ≡ b → Says (flag (elim b [ true ↦ 1 | false ↦ 0 ]) (bits_at g m i)) (Effect g m i)
      go true e = record { tells = λ t. unknown (says_by_unknown.tells e) t; holds = unknowns (says_by_unknown.tells e) }
      go false e = record { tells = λ t. plain (denies says_by_unknown e) t; holds = plainly (denies says_by_unknown e) }

  says_waits : (i : ℕ) → Says (on_demand g v m && gated g m i) (Waits g v m i)
  says_waits i = says_as (says_both (says_it (on_demand g v m)) (says_it (gated g m i))) (λ x. record { on_demand_holds = x.0; is_gated = x.1 }) (λ x. (x.on_demand_holds, x.is_gated))

  says_later : (i : ℕ) → Says (not (eqb i 0)) (1 ≤ i)
  says_later i = says_as (says_not (says_equal i 0)) (λ h. omega (arith, h)) (λ l e. omega (arith, l, e))

  abbrev SweptShaken : ℕ → Type 0
  SweptShaken i = (Effect g m i × (Waits g v m i → ⊥)) ⊎ (Eval g m × (flag 4 (bits_at g m i) ≡ true))

  says_swept_shaken : (i : ℕ) → Says (swept_shaken g v m i) (SweptShaken i)
  unfolding swept_shaken has_eval
  says_swept_shaken i = says_either (says_both (says_effect i) (says_not (says_waits i))) (says_both (says_it (has_eval g m)) (says_it (flag 4 (bits_at g m i))))

  abbrev SweptWhole : ℕ → Type 0
  SweptWhole i = (flag 2 (bits_at g m i) ≡ false) ⊎ (flag 0 (bits_at g m i) ≡ true)

  says_swept_whole : (i : ℕ) → Says (swept_whole g m i) (SweptWhole i)
  unfolding swept_whole
  says_swept_whole i = says_either (says_false (flag 2 (bits_at g m i))) (says_it (flag 0 (bits_at g m i)))

  abbrev Swept : ℕ → Type 0
  Swept i = (Shaken g v m × SweptShaken i) ⊎ ((Shaken g v m → ⊥) × SweptWhole i)

  says_swept : (i : ℕ) → Says (swept g v m i) ((1 ≤ i) × Swept i)
  unfolding swept
  says_swept i = says_both (says_later i) (says_by says_shaken (says_swept_shaken i) (says_swept_whole i))

  says_dependency : (d : ℕ) → Says (normal g d && (not (option g 0) || has_effects v d)) ((normal g d ≡ true) × ((option g 0 ≡ false) ⊎ (has_effects v d ≡ true)))
  says_dependency d = says_both (says_it (normal g d)) (says_either (says_false (option g 0)) (says_it (has_effects v d)))

  -- what the segments give
  module _ (s : Sweeps g v m) where
    sweep-only : (i : ℕ) → i < length (statement_list g m) → Only (Gives g v 2 (module_fact m)) (sweep_candidate g v m i)
    unfolding sweep_candidate
    sweep-only i l = only_when (swept g v m i) (statement_fact m i) (λ e. go ((says_swept i).tells e).0 ((says_swept i).tells e).1)
      where
        go : 1 ≤ i → Swept i → Gives g v 2 (module_fact m) (statement_fact m i)
        go h (inl x) = let b : Body g m i = record { later = h; listed = l } in ⊎_elim (λ y. K2_effect m i s x.0 b y.0 y.1) (λ y. K2_eval m i s x.0 b y.0 y.1) x.1
        go h (inr x) = let b : Body g m i = record { later = h; listed = l } in ⊎_elim (K2_unforced m i s x.0 b) (K2_forced m i s x.0 b) x.1

    dependency-only : (k : ℕ) → k < length (dependencies (module_of g m)) → Only (Gives g v 3 (module_fact m)) (dependency_candidate g v m k)
    unfolding dependency_candidate dependency
    dependency-only k l =
        let d = only (get_or (dependencies (module_of g m)) k []) in
        only_when _ (module_fact d) (λ e. let x = (says_dependency d).tells e in ⊎_elim (K3_whole m k d s l refl x.0) (K3_effects m k d s l refl x.0) x.1)

    eval-only : (k : ℕ) → k < eval_candidates g m → Only (Gives g v 4 (module_fact m)) (eval_candidate g m k)
    unfolding eval_candidates eval_candidate
    eval-only k l = let c = counted _ l in only_fact (K4 m k s (says_eval.tells c.0).0 (says_eval.tells c.0).1 c.1)

    export-symbol-only : (k : ℕ) → k < length (common_js_export_symbols (module_of g m)) → Only (Gives g v 5 (module_fact m)) (export_symbol_candidate g m k)
    unfolding export_symbol_candidate
    export-symbol-only k l = only_fact (K5 m k s l)

    dev-only : (k : ℕ) → Only (Gives g v 6 (module_fact m)) (dev_candidate g m k)
    unfolding dev_candidate
    dev-only k = only_when (dev_namespace g m) (statement_fact m 0) (λ e. let x = says_dev.tells e in K6 m s x.0 x.1.0 x.1.1)

    pub module-only : OnlySegments (λ r. Gives g v r (module_fact m)) (module_segments g v m)
    unfolding module_segments
    module-only = (sweep-only, (dependency-only, (eval-only, (export-symbol-only, ((λ k u. dev-only k), tt)))))

  -- what the relation says is there
  swept_offered : (i : ℕ) → Body g m i → Swept i → Offered 2 (statement_fact m i) (module_segments g v m)
  unfolding module_segments sweep_candidate
  swept_offered i b x = here refl i b.listed (when_true (statement_fact m i) ((says_swept i).holds (b.later, x)))

  pub effect_offered : (i : ℕ) → Shaken g v m → Body g m i → Effect g m i → (Waits g v m i → ⊥) → Offered 2 (statement_fact m i) (module_segments g v m)
  effect_offered i h b e w = swept_offered i b (inl (h, inl (e, w)))

  pub eval_offered : (i : ℕ) → Shaken g v m → Body g m i → Eval g m → flag 4 (bits_at g m i) ≡ true → Offered 2 (statement_fact m i) (module_segments g v m)
  eval_offered i h b e w = swept_offered i b (inl (h, inr (e, w)))

  pub unforced_offered : (i : ℕ) → (Shaken g v m → ⊥) → Body g m i → flag 2 (bits_at g m i) ≡ false → Offered 2 (statement_fact m i) (module_segments g v m)
  unforced_offered i h b e = swept_offered i b (inr (h, inl e))

  pub forced_offered : (i : ℕ) → (Shaken g v m → ⊥) → Body g m i → flag 0 (bits_at g m i) ≡ true → Offered 2 (statement_fact m i) (module_segments g v m)
  forced_offered i h b e = swept_offered i b (inr (h, inr e))

  pub dependency_offered : (k d : ℕ) → k < length (dependencies (module_of g m)) → only (get_or (dependencies (module_of g m)) k []) ≡ d → normal g d ≡ true
      → (option g 0 ≡ false) ⊎ (has_effects v d ≡ true) → Offered 3 (module_fact d) (module_segments g v m)
  unfolding module_segments dependency_candidate dependency
  dependency_offered k d l q n x =
      let is : Picks (dependency_candidate g v m k) (module_fact d) = rw q (when_true (module_fact d) ((says_dependency d).holds (n, x))) in there (here refl k l is)

  pub import_offered : (k : ℕ) → Eval g m → module_type (module_of g m) ≤ 1 → k < length (named_imports (module_of g m)) → Offered 4 (checked_fact (only (get_or (named_imports (module_of g m)) k [])) 1) (module_segments g v m)
  unfolding module_segments eval_candidates eval_candidate
  import_offered k e t l = there (there (here refl k (counts (says_eval.holds (e, t)) l) refl))

  pub export_symbol_offered : (k : ℕ) → k < length (common_js_export_symbols (module_of g m)) → Offered 5 (checked_fact (only (get_or (common_js_export_symbols (module_of g m)) k [])) 1) (module_segments g v m)
  unfolding module_segments export_symbol_candidate
  export_symbol_offered k l = there (there (there (here refl k l refl)))

  pub dev_offered : option g 4 ≡ true → (m ≡ g.header.runtime → ⊥) → exports (module_of g m) ≡ 0 → Offered 6 (statement_fact m 0) (module_segments g v m)
  unfolding module_segments dev_candidate
  dev_offered o n x = there (there (there (there (here refl 0 first (when_true (statement_fact m 0) (says_dev.holds (o, (n, x))))))))
