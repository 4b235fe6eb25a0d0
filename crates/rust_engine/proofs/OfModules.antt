-- What the bodies ask for and what the rules give are the same: modules (K2 to K6).
use Rattle.std.proofs.Common.{◌≡◌, ℕ, zero, suc, ◌-◌, ◌<◌, Bool, true, false, not, ◌&&◌, ◌||◌, eqb, List, [], length, get_or, sym, refl, ap, ◌∙◌, subst, arith, ne_eqb}
use mathlib.Core.Bool.{false≢true}
use Rattle.determine_side_effects.specs.graph_crate.Check.{Graph}
use Rattle.determine_side_effects.specs.graph_access_crate.Names.{exports, flags, dependencies, named_imports, common_js_export_symbols, only, statement_bits}
use Rattle.determine_side_effects.specs.graph_access_crate.Words.{flag, module_of, statement_list, statement_of, normal, option}
use Rattle.determine_side_effects.specs.facts_crate.Facts.{module_fact, statement_fact, checked_fact}
use Rattle.determine_side_effects.specs.Effects.{last_verdicts, has_effects}
use Rattle.on_demand.specs.Demand.{on_demand, gated}
use Rattle.keep_rules.specs.Rules.{quiet_runtime, has_eval, effect_bit, swept_shaken, swept_whole, swept, sweep_candidate, dependency, dependency_candidate, eval_candidates, eval_candidate, export_symbol_candidate, dev_namespace, dev_candidate, module_segments, segments_of}
use Rattle.rust_engine.specs.Tables.{has_side_effects}
use Rattle.rust_engine.specs.OnDemand.{side_effects_included_on_demand, is_gated_side_effect_stmt}
use Rattle.rust_engine.specs.Engine.{bail_eval, has_effect, sweeps}
use Rattle.rust_engine.proofs.Kept.{AllGiven}
use Rattle.rust_engine.proofs.Views.{HoldsAll, given_segments, segments_given, holds_when, when_holds}
use Rattle.rust_engine.proofs.Asking.{World}
use Rattle.rust_engine.proofs.Demanding.{both, and_true, not_true, true_not, gated_split, in_iter, iter_in}
use Rattle.rust_engine.proofs.Keys.{on_demand_same}
use Rattle.rust_engine.proofs.Linking.{by_index, by_element, effects_same}
use Rattle.rust_engine.proofs.Modules.{sweeps_by, Depends, eval_test, dev_test, shaken, ModuleAsks}

module _ (g : Graph) where
  abbrev v : List ℕ
  v = last_verdicts g

  -- the sweep, of any statement but the namespace's
  sweeps_same : (m i : ℕ) → (i ≡ 0 → ⊥) → sweeps g v m i ≡ swept_shaken g v m i
  unfolding sweeps swept_shaken has_effect bail_eval effect_bit has_eval
  sweeps_same m i n =
      ap (λ e. (e && not (side_effects_included_on_demand g v m && is_gated_side_effect_stmt (statement_of g m i))) || bail_eval g m i)
      (effect (flag 1 (flags (module_of g m)) && option g 2))
      ∙ (ap (λ d. (flag (effect_bit g m) (statement_bits (statement_of g m i)) && not (d && is_gated_side_effect_stmt (statement_of g m i))) || bail_eval g m i)
      (on_demand_same g v m)
      ∙ (ap (λ d. (flag (effect_bit g m) (statement_bits (statement_of g m i)) && not (on_demand g v m && d)) || bail_eval g m i)
      (sym (gated_split g m i ∙ ap (λ b. not b && is_gated_side_effect_stmt (statement_of g m i)) nonzero))
      ∙ ap (λ d. (flag (effect_bit g m) (statement_bits (statement_of g m i)) && not (on_demand g v m && gated g m i)) || (flag 0 (flags (module_of g m)) && d))
      (last (flag 4 (statement_bits (statement_of g m i))))))
    where
      nonzero : eqb i 0 ≡ false
      nonzero = ne_eqb i 0 n

      effect : (b : Bool)
          → (elim b [ true ↦ flag 1 (statement_bits (statement_of g m i)) | false ↦ flag 0 (statement_bits (statement_of g m i)) ]) ≡ flag
          (elim b [ true ↦ 1 | false ↦ 0 ]) (statement_bits (statement_of g m i))
      effect true = refl
      effect false = refl

      last : (b : Bool) → (b && not (eqb i 0)) ≡ b
      last true = ap (λ z. not z) nonzero
      last false = refl

  swept_same : (m i : ℕ) → (i ≡ 0 → ⊥) → swept g v m i ≡ sweeps_by g (shaken g m) m i
  unfolding swept swept_whole
  swept_same m i n = rw (ne_eqb i 0 n) (go (option g 0 && not (eqb (get_or v m 0) 4)))
    where
      go : (b : Bool) → (elim b [ true ↦ swept_shaken g v m i | false ↦ swept_whole g m i ]) ≡ sweeps_by g b m i
      go true = sym (sweeps_same m i n)
      go false = refl

  quiet_same : (m : ℕ) → (eqb m g.header.runtime && not (has_side_effects v m)) ≡ quiet_runtime g v m
  unfolding quiet_runtime
  quiet_same m = ap (λ b. eqb m g.header.runtime && not b) (effects_same v m)

  not_zero : (m : ℕ) → swept g v m 0 ≡ false
  unfolding swept
  not_zero m = refl

  module _ (w : World g v) (m : ℕ) where
    from_segments : (dev_namespace g m ≡ true → w.reason m 1) → HoldsAll w.fact (module_segments g v m) → ModuleAsks g m w
    unfolding module_segments sweep_candidate dependency_candidate dependency eval_candidates has_eval eval_candidate export_symbol_candidate dev_namespace dev_candidate
    from_segments dev h = (
      (
        (
          (
            λ i q e. let r = iter_in g m i q in
                let n : i ≡ 0 → ⊥ = λ z. omega (arith, z, r.0) in
                holds_when w.fact (swept g v m i) (statement_fact m i) (h.0 i r.1) (swept_same m i n ∙ e),
            by_element (λ row. Depends g (only row) w) (dependencies (module_of g m)) []
                (λ k u a b. holds_when w.fact (normal g (dependency g m k) && (not (option g 0) || has_effects v (dependency g m k)))
                (module_fact (dependency g m k)) (h.1.0 k u)
                (and_true _ _ a (subst (λ z. (not (option g 0) || z) ≡ true) (effects_same v (dependency g m k)) b))),
          ),
          λ e. by_element (λ row. w.fact (checked_fact (only row) 1)) (named_imports (module_of g m)) [] (λ k u. h.1.1.0 k (enough e k u)),
        ),
        by_element (λ row. w.fact (checked_fact (only row) 1)) (common_js_export_symbols (module_of g m)) [] h.1.1.1.0,
      ),
      λ e. (holds_when w.fact (dev_test g m) (statement_fact m 0) (h.1.1.1.1.0 0 (omega arith)) e, dev e),
    )
      where
        enough : eval_test g m ≡ true → (k : ℕ) → k < length (named_imports (module_of g m)) → k < eval_candidates g m
        enough e k u = rw (e, eval_candidates) u

    to_segments : ModuleAsks g m w → HoldsAll w.fact (module_segments g v m)
    unfolding module_segments sweep_candidate dependency_candidate dependency eval_candidates has_eval eval_candidate export_symbol_candidate dev_namespace dev_candidate
    to_segments h = (
      λ k u. when_holds w.fact (swept g v m k) (statement_fact m k) (λ e. sweeping k u e),
      (
        λ k u. when_holds w.fact (normal g (dependency g m k) && (not (option g 0) || has_effects v (dependency g m k))) (module_fact (dependency g m k)) (λ e.
            let r = both (normal g (dependency g m k)) (not (option g 0) || has_effects v (dependency g m k)) e in
            by_index (λ row. Depends g (only row) w) (dependencies (module_of g m)) [] h.0.0.0.1 k u r.0
            (subst (λ z. (not (option g 0) || z) ≡ true) (sym (effects_same v (dependency g m k))) r.1)),
        (
          λ k u. evaluated (eval_test g m) refl k u,
          (
            by_index (λ row. w.fact (checked_fact (only row) 1)) (common_js_export_symbols (module_of g m)) [] h.0.1,
            (λ k u. when_holds w.fact (dev_test g m) (statement_fact m 0) (λ e. (h.1 e).0), tt),
          ),
        ),
      ),
    )
      where
        sweeping : (k : ℕ) → k < length (statement_list g m) → swept g v m k ≡ true → w.fact (statement_fact m k)
        sweeping zero u e = absurd (false≢true (sym (not_zero m) ∙ e))
        sweeping (suc k) u e = let n : suc k ≡ 0 → ⊥ = λ z. omega (arith, z) in h.0.0.0.0 (suc k) (in_iter g m (suc k) u n) (sym (swept_same m (suc k) n) ∙ e)

        evaluated : (b : Bool) → eval_test g m ≡ b → (k : ℕ) → k < eval_candidates g m → w.fact (checked_fact (only (get_or (named_imports (module_of g m)) k [])) 1)
        evaluated true e k u =
            by_index (λ row. w.fact (checked_fact (only row) 1)) (named_imports (module_of g m)) [] (h.0.0.1 e) k (rw (e, eval_candidates) at u)
        evaluated false e k u = absurd (none (rw (e, eval_candidates) at u))
          where
            none : k < 0 → ⊥
            none z = omega (arith, z)

  pub module_from : (w : World g v) (m : ℕ) → (dev_namespace g m ≡ true → w.reason m 1) → AllGiven g v w.fact (module_fact m)
      → not (eqb m g.header.runtime && not (has_side_effects v m)) ≡ true → ModuleAsks g m w
  unfolding segments_of
  module_from w m dev h e =
      let q : quiet_runtime g v m ≡ false = sym (quiet_same m) ∙ not_true (eqb m g.header.runtime && not (has_side_effects v m)) e in
      from_segments w m dev (rw (q, segments_of) at (given_segments w.fact g v (module_fact m) h))

  pub module_to : (w : World g v) (m : ℕ) → (not (eqb m g.header.runtime && not (has_side_effects v m)) ≡ true → ModuleAsks g m w)
      → AllGiven g v w.fact (module_fact m) × (dev_namespace g m ≡ true → w.reason m 1)
  unfolding segments_of dev_namespace
  module_to w m h = (segments_given w.fact g v (module_fact m) (go (quiet_runtime g v m) (quiet_same m)), λ e. ((h (loud (eqb m g.header.runtime) e)).1 e).1)
    where
      go : (b : Bool) → (eqb m g.header.runtime && not (has_side_effects v m)) ≡ b → HoldsAll w.fact (elim b [ true ↦ [] | false ↦ module_segments g v m ])
      go true e = tt
      go false e = to_segments w m (h (true_not _ e))

      -- the runtime has no such statement
      loud : (b : Bool) → (option g 4 && (not b && eqb (exports (module_of g m)) 0)) ≡ true → not (b && not (has_side_effects v m)) ≡ true
      loud true e =
          absurd (false≢true (both (not true) (eqb (exports (module_of g m)) 0) (both (option g 4) (not true && eqb (exports (module_of g m)) 0) e).1).0)
      loud false e = refl
