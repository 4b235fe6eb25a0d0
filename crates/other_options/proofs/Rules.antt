-- The keep rules K2 to K14 read bits 0 to 4 of the options, and of the entries which modules user-defined ones have: with the same bits and modules they give
-- the same.
use Prim.Native.Nat.{ℕ, zero, suc, ◌<◌}
use mathlib.Core.Path.{◌≡◌, refl, ap, ◌∙◌}
use mathlib.Core.Bool.{Bool, true, false, not, ◌&&◌, ◌||◌}
use mathlib.Core.List.{List, [], ◌∷◌}
use native.Mathlib.Omega.{arith}
use lib.Dec.{eqb}
use lib.ListN.{length, get_or}
use Rattle.determine_side_effects.specs.rows_crate.Walk.{Item}
use Rattle.determine_side_effects.specs.graph_crate.Check.{Graph}
use Rattle.determine_side_effects.specs.graph_access_crate.Names.{exports, flags, dependencies, common_js_export_symbols, owner, constant_bits, written_property_statements, statement_bits}
use Rattle.determine_side_effects.specs.graph_access_crate.Words.{flag, module_of, symbol_of, statement_list, statement_of, normal, option, root_of}
use Rattle.determine_side_effects.specs.facts_crate.declared.Fact.{Fact}
use Rattle.determine_side_effects.specs.facts_crate.declared.Fact.TheVariants.{Module, Statement, Use, CheckedUse, Forward, Bailout}
use Rattle.determine_side_effects.specs.facts_crate.Facts.{module_fact, statement_fact}
use Rattle.determine_side_effects.specs.Effects.{has_effects}
use Rattle.on_demand.specs.Demand.{user_entry, on_demand, gated, has_gated, has_body, claims, claimed, body_of}
use Rattle.linking_metadata.specs.Namespaces.{common_js_of, is_namespace, target_of}
use Rattle.keep_rules.specs.declared.Candidate.{Candidate}
use Rattle.keep_rules.specs.Rules.{Segment, segment, when, quiet_runtime, has_eval, effect_bit, swept_shaken, swept_whole, swept, sweep_candidate, dependency, dependency_candidate, eval_candidates, eval_candidate, export_symbol_candidate, dev_namespace, dev_candidate, module_segments, import_record_of, bails_out, import_record_candidate, reason_of, inlined, forwards, forward_candidate, plain_candidate, reference_candidates, reference_candidate, reference_segment, statement_segments, default_alias, checked_candidate, bypassed, demanded, demand_candidates, demand_candidate, export_candidate, alias_candidate, needs_wrapper, wrapper_candidates, wrapper_candidate, declaration_candidates, declaration_candidate, write_candidates, write_candidate, use_segments, segments_of, given_by, gives}
use Rattle.other_options.proofs.Changed.{changed}
use Rattle.other_options.proofs.Cases.{same_first, same_second}

module _ (g : Graph) (o : ℕ) (es : List Item) (same : (j : ℕ) → j < 6 → option (changed g o es) j ≡ option g j)
    (users : (m : ℕ) → user_entry (changed g o es) m ≡ user_entry g m) where
  abbrev h : Graph
  h = changed g o es

  demand_same : (v : List ℕ) (m : ℕ) → on_demand h v m ≡ on_demand g v m
  unfolding on_demand module_of
  demand_same v m = let e = users m in rw e

  -- K2 to K6
  effect_same : (m : ℕ) → effect_bit h m ≡ effect_bit g m
  unfolding effect_bit module_of
  effect_same m = ap (λ (b : Bool). elim (flag 1 (flags (module_of g m)) && b) as (λ x. ℕ) [ true ↦ 1 | false ↦ 0 ]) (same 2 (omega arith))

  shaken_same : (v : List ℕ) (m i : ℕ) → swept_shaken h v m i ≡ swept_shaken g v m i
  unfolding swept_shaken gated has_eval module_of statement_of statement_list
  shaken_same v m i = ap (λ (k : ℕ). by k (on_demand h v m)) (effect_same m) ∙ ap (λ (b : Bool). by (effect_bit g m) b) (demand_same v m)
    where
      by : ℕ → Bool → Bool
      by k b = (flag k (statement_bits (statement_of g m i)) && not (b && gated g m i)) || (has_eval g m && flag 4 (statement_bits (statement_of g m i)))

  swept_same : (v : List ℕ) (m i : ℕ) → swept h v m i ≡ swept g v m i
  unfolding swept swept_whole statement_of statement_list
  swept_same v m i =
      ap (λ (b : Bool).
      not (eqb i 0) && elim (b && not (eqb (get_or v m 0) 4)) as (λ x. Bool) [ true ↦ swept_shaken h v m i | false ↦ swept_whole g m i ]) (same 0 (omega arith))
      ∙ ap (λ (b : Bool). not (eqb i 0) && b)
      (same_first (option g 0 && not (eqb (get_or v m 0) 4)) (swept_shaken h v m i) (swept_shaken g v m i) (swept_whole g m i) (shaken_same v m i))

  sweep_same : (v : List ℕ) (m i : ℕ) → sweep_candidate h v m i ≡ sweep_candidate g v m i
  unfolding sweep_candidate
  sweep_same v m i = ap (λ (b : Bool). when b (statement_fact m i)) (swept_same v m i)

  dependency_same : (v : List ℕ) (m k : ℕ) → dependency_candidate h v m k ≡ dependency_candidate g v m k
  unfolding dependency_candidate dependency normal module_of
  dependency_same v m k =
      ap (λ (b : Bool). when (normal g (dependency g m k) && (not b || has_effects v (dependency g m k))) (module_fact (dependency g m k))) (same 0 (omega arith))

  namespace_same : (m : ℕ) → dev_namespace h m ≡ dev_namespace g m
  unfolding dev_namespace module_of
  namespace_same m = ap (λ (b : Bool). b && (not (eqb m g.header.runtime) && eqb (exports (module_of g m)) 0)) (same 4 (omega arith))

  dev_same : (m k : ℕ) → dev_candidate h m k ≡ dev_candidate g m k
  unfolding dev_candidate
  dev_same m k = ap (λ (b : Bool). when b (statement_fact m 0)) (namespace_same m)

  module_same : (v : List ℕ) (m : ℕ) → module_segments h v m ≡ module_segments g v m
  unfolding module_segments eval_candidates eval_candidate export_symbol_candidate has_eval module_of statement_list
  module_same v m =
      let second : sweep_candidate h v m ≡ sweep_candidate g v m = λ j i. sweep_same v m i j in
      let third : dependency_candidate h v m ≡ dependency_candidate g v m = λ j k. dependency_same v m k j in
      let sixth : dev_candidate h m ≡ dev_candidate g m = λ j k. dev_same m k j in
      ap (λ (c : ℕ → Candidate). segmentsBy c (dependency_candidate h v m) (dev_candidate h m)) second
      ∙ ap (λ (c : ℕ → Candidate). segmentsBy (sweep_candidate g v m) c (dev_candidate h m)) third
      ∙ ap (λ (c : ℕ → Candidate). segmentsBy (sweep_candidate g v m) (dependency_candidate g v m) c) sixth
    where
      segmentsBy : (ℕ → Candidate) → (ℕ → Candidate) → (ℕ → Candidate) → List Segment
      segmentsBy a b c =
          segment 2 (length (statement_list g m)) a ∷ segment 3 (length (dependencies (module_of g m))) b ∷ segment 4 (eval_candidates g m) (eval_candidate g m)
          ∷ segment 5 (length (common_js_export_symbols (module_of g m))) (export_symbol_candidate g m) ∷ segment 6 1 c ∷ []

  -- K7 and K8
  statement_same : (v : List ℕ) (m i : ℕ) → statement_segments h v m i ≡ statement_segments g v m i
  unfolding statement_segments import_record_of bails_out import_record_candidate reason_of inlined forwards forward_candidate plain_candidate reference_candidates reference_candidate reference_segment normal module_of symbol_of statement_list statement_of
  statement_same v m i = refl

  -- K9
  checked_same : (s x : ℕ) → checked_candidate h s x ≡ checked_candidate g s x
  unfolding checked_candidate default_alias common_js_of is_namespace normal module_of symbol_of
  checked_same s x = refl

  -- K10 to K14
  bypassed_same : (s x : ℕ) → bypassed h s x ≡ bypassed g s x
  unfolding bypassed symbol_of
  bypassed_same s x =
      ap (λ (b : Bool).
      flag 0 (constant_bits (symbol_of g (root_of g.symbols s))) && (not (flag 2 (constant_bits (symbol_of g (root_of g.symbols s))))
      && (not (flag 1 x) && (not b || flag 1 (constant_bits (symbol_of g (root_of g.symbols s))))))) (same 1 (omega arith))

  claims_same : (v : List ℕ) (m s : ℕ) → claims h v m s ≡ claims g v m s
  unfolding claims has_body has_gated gated normal module_of statement_list statement_of
  claims_same v m s = let e = demand_same v m in rw e

  claimed_same : (v : List ℕ) (s k : ℕ) → claimed h v s k ≡ claimed g v s k
  unfolding claimed
  claimed_same v s zero = refl
  claimed_same v s (suc k) =
      ap (λ (b : Bool). elim b as (λ x. ℕ) [ true ↦ suc k | false ↦ claimed h v s k ]) (claims_same v k s)
      ∙ same_second (claims g v k s) (claimed h v s k) (claimed g v s k) (suc k) (claimed_same v s k)

  body_same : (v : List ℕ) (s : ℕ) → body_of h v s ≡ body_of g v s
  unfolding body_of
  body_same v s =
      let n = g.header.modules in
      ap (λ (b : Bool). elim b as (λ x. ℕ) [ true ↦ claimed h v s n | false ↦ 0 ]) (same 0 (omega arith))
      ∙ same_first (option g 0) (claimed h v s n) (claimed g v s n) 0 (claimed_same v s n)

  demanded_same : (v : List ℕ) (s x : ℕ) → demanded h v s x ≡ demanded g v s x
  unfolding demanded
  demanded_same v s x =
      let r = root_of g.symbols s in
      same_second (flag 4 x) (body_of h v r) (body_of g v r) 0 (body_same v r)

  writes_same : (s : ℕ) → write_candidates h s ≡ write_candidates g s
  unfolding write_candidates normal module_of symbol_of
  writes_same s =
      ap (λ (b : Bool).
      elim (b && normal g (owner (symbol_of g s))) as (λ x. ℕ) [ true ↦ length (written_property_statements (symbol_of g s)) | false ↦ 0 ]) (same 3 (omega arith))

  use_same : (v : List ℕ) (s x : ℕ) → use_segments h v s x ≡ use_segments g v s x
  unfolding use_segments demand_candidates demand_candidate gated export_candidate alias_candidate needs_wrapper wrapper_candidates wrapper_candidate declaration_candidates declaration_candidate write_candidate forwards forward_candidate common_js_of is_namespace target_of normal module_of symbol_of statement_list statement_of
  use_same v s x = ap (λ (d : ℕ). segmentsBy d (write_candidates h s)) (demanded_same v s x) ∙ ap (λ (n : ℕ). segmentsBy (demanded g v s x) n) (writes_same s)
    where
      segmentsBy : ℕ → ℕ → List Segment
      segmentsBy d n =
          segment 10 (demand_candidates g d) (demand_candidate g d) ∷ segment 11 1 (alias_candidate g (root_of g.symbols s))
          ∷ segment 12 (wrapper_candidates g s (target_of g s)) (wrapper_candidate g s (target_of g s))
          ∷ segment 13 (declaration_candidates g (target_of g s)) (declaration_candidate g (target_of g s) x) ∷ segment 14 n (write_candidate g s) ∷ []

  segments_same : (v : List ℕ) (f : Fact) → segments_of h v f ≡ segments_of g v f
  unfolding segments_of quiet_runtime
  segments_same v (Module m) = same_second (quiet_runtime g v m.0) (module_segments h v m.0) (module_segments g v m.0) [] (module_same v m.0)
  segments_same v (Statement m i) = statement_same v m.0 i.0
  segments_same v (CheckedUse s x) = ap (λ (c : ℕ → Candidate). segment 9 4 c ∷ []) (checked_same s.0 x.bits)
  segments_same v (Use s x) =
      ap (λ (b : Bool). elim b as (λ x. List Segment) [ true ↦ [] | false ↦ use_segments h v s.0 x.bits ]) (bypassed_same s.0 x.bits)
      ∙ same_second (bypassed g s.0 x.bits) (use_segments h v s.0 x.bits) (use_segments g v s.0 x.bits) [] (use_same v s.0 x.bits)
  segments_same v (Forward s) = refl
  segments_same v (Bailout m) = refl

  pub gives_same : (v : List ℕ) (f : Fact) → gives h v f ≡ gives g v f
  unfolding gives
  gives_same v f = ap (λ (s : List Segment). given_by s 0) (segments_same v f)
