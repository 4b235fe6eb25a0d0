-- What a use puts on the queue: statements, modules, and uses that it gives.
use Prim.Native.Nat.{ℕ, ◌<◌}
use mathlib.Core.Path.{◌≡◌, refl}
use mathlib.Core.Bool.{Bool, true, false, ◌&&◌, ◌||◌, not}
use mathlib.Core.List.{List}
use lib.Dec.{eqb}
use lib.ListN.{length, get_or}
use Rattle.determine_side_effects.specs.graph_crate.Check.{Graph}
use Rattle.determine_side_effects.specs.graph_access_crate.Names.{module_type, wrap, wrapper, resolved_exports, alias_namespace, alias_name}
use Rattle.determine_side_effects.specs.graph_access_crate.Words.{flag, module_of, symbol_of, normal}
use Rattle.determine_side_effects.specs.facts_crate.declared.Fact.{Fact}
use Rattle.determine_side_effects.specs.facts_crate.declared.Fact.TheVariants.{Module, Statement, Use, CheckedUse, Forward, Bailout}
use Rattle.determine_side_effects.specs.facts_crate.Facts.{use_fact}
use Rattle.determine_side_effects.specs.Effects.{last_verdicts}
use Rattle.keep_rules.specs.Rules.{gives}
use Rattle.closed_choices.specs.Choice.{nothing_given}
use Rattle.rust_values.specs.Values.{Found, none, found, optional}
use Rattle.rust_engine.specs.Context.{WorkItem, module_item, symbol_item, statement_item, Context, push, insert_used, insert_external, insert_reason, insert_json, when as when_do}
use Rattle.rust_engine.specs.Tables.{canonical_ref_for, owner_of, import_record_ns_to_cjs_module, resolved_export, is_module_namespace}
use Rattle.rust_engine.specs.Engine.{enqueue_declaring_statements, retain_forwarding_declarations, is_bypassed_inlined_constant, drain_body_demand_stmts, alias_target, push_export, include_named_export, follow_cjs_namespace_alias, note_namespace_inclusion_reason, is_simulated_facade_chunk, demand_wrapper, demand_esm_initialization, note_json_self_reference, symbol_body, handle_include_symbol}
use Rattle.rust_engine.proofs.Asking.{World}
use Rattle.rust_engine.proofs.Symbols.{Symbol}
use Rattle.rust_engine.proofs.Links.{links}
use Rattle.rust_returns.specs.Circle.{GivesUse}
use Rattle.rust_returns.proofs.Uses.{at_place}
use Rattle.rust_returns.proofs.Adding.{Adds, adds_none, adds_push, adds_then, adds_when, adds-declaring, adds-forwards, adds-demand, adds-writes}

module _ (P : WorkItem → Type 0) where
  adds_if : (b : Bool) (f : Context → Context) (c : Context) → (b ≡ true → Adds P c (f c)) → Adds P c (elim b [ true ↦ f c | false ↦ c ])
  adds_if true f c a = a refl
  adds_if false f c a = adds_none P c c refl

  module _ (g : Graph) where
    -- K11
    adds-export : (name : ℕ) (r : Found) (c : Context) → ((e : ℕ) → r ≡ found e → not (eqb name 0) ≡ true → P (symbol_item e 1)) → Adds P c (push_export r name c)
    unfolding push_export
    adds-export name none c h = adds_none P c c refl
    adds-export name (found e) c h = adds_if (not (eqb name 0)) (push (symbol_item e 1)) c (λ q. adds_push P (symbol_item e 1) c (h e refl q))

    adds-named : (name : ℕ) (r : Found) (c : Context)
        → ((idx : ℕ) → r ≡ found idx → normal g idx ≡ true → (e : ℕ) → resolved_export name (resolved_exports (module_of g idx)) ≡ found e → not (eqb name 0) ≡ true → P (symbol_item e 1))
        → Adds P c (include_named_export g name r c)
    unfolding include_named_export
    adds-named name none c h = adds_none P c c refl
    adds-named name (found idx) c h =
        adds_if (normal g idx) (push_export (resolved_export name (resolved_exports (module_of g idx))) name) c
        (λ n. adds-export name (resolved_export name (resolved_exports (module_of g idx))) c (h idx refl n))

    adds-alias : (root : ℕ) (r : Found) (c : Context)
        → ((n : ℕ) → r ≡ found n → (idx : ℕ) → import_record_ns_to_cjs_module g n ≡ found idx → normal g idx ≡ true
        → (e : ℕ) → resolved_export (alias_name (symbol_of g root)) (resolved_exports (module_of g idx)) ≡ found e → not (eqb (alias_name (symbol_of g root)) 0) ≡ true → P (symbol_item e 1))
        → Adds P c (follow_cjs_namespace_alias g root r c)
    unfolding follow_cjs_namespace_alias
    adds-alias root none c h = adds_none P c c refl
    adds-alias root (found n) c h = adds-named (alias_name (symbol_of g root)) (import_record_ns_to_cjs_module g n) c (h n refl)

    module _ (ps : (m i : ℕ) → P (statement_item m i)) (pm : (m : ℕ) → P (module_item m)) where
      -- K12
      adds-wrapper : (s t : ℕ) (r : Found) (c : Context) → ((n : ℕ) → r ≡ found n → not (eqb n t) ≡ true → P (symbol_item n 1)) → Adds P c (demand_wrapper g s t r c)
      unfolding demand_wrapper
      adds-wrapper s t none c h = adds_none P c c refl
      adds-wrapper s t (found n) c h =
          adds_if (not (eqb n t)) (λ c. retain_forwarding_declarations g s (push (symbol_item n 1) c)) c
          (λ q. adds_then P c (push (symbol_item n 1) c) _ (adds_push P (symbol_item n 1) c (h n refl q)) (adds-forwards P g ps s (push (symbol_item n 1) c)))

      adds-initialization : (s t : ℕ) (c : Context)
          → (eqb (wrap (module_of g (owner_of g t))) 2 ≡ true → (n : ℕ) → optional (wrapper (module_of g (owner_of g t))) ≡ found n → not (eqb n t) ≡ true → P (symbol_item n 1))
          → Adds P c (demand_esm_initialization g s t c)
      unfolding demand_esm_initialization
      adds-initialization s t c h =
          adds_if (eqb (wrap (module_of g (owner_of g t))) 2) (demand_wrapper g s t (optional (wrapper (module_of g (owner_of g t))))) c
          (λ q. adds-wrapper s t (optional (wrapper (module_of g (owner_of g t)))) c (h q))

      -- rows only
      adds-note : (t x : ℕ) (c : Context) → Adds P c (note_namespace_inclusion_reason g t x c)
      unfolding note_namespace_inclusion_reason insert_reason
      adds-note t x c = go (is_module_namespace g t) (flag 0 x || flag 1 x) (flag 2 x)
        where
          go : (a b d : Bool)
              → Adds P c (elim a [ true ↦ elim b [ true ↦ insert_reason (owner_of g t) 1 c | false ↦ elim d [ true ↦ insert_reason (owner_of g t) 2 c | false ↦ c ] ] | false ↦ c ])
          go true true d = adds_none P c (insert_reason (owner_of g t) 1 c) refl
          go true false true = adds_none P c (insert_reason (owner_of g t) 2 c) refl
          go true false false = adds_none P c c refl
          go false b d = adds_none P c c refl

      adds-used : (s : ℕ) (c : Context) → Adds P c (insert_used s c)
      unfolding insert_used
      adds-used s c = adds_none P c (insert_used s c) refl

      adds-external : (s : ℕ) (c : Context) → Adds P c (insert_external s c)
      unfolding insert_external
      adds-external s c = adds_none P c (insert_external s c) refl

      adds-json : (t x : ℕ) (c : Context) → Adds P c (note_json_self_reference g t x c)
      unfolding note_json_self_reference insert_json
      adds-json t x c =
          adds_when P (not (flag 3 x) && eqb (module_type (module_of g (owner_of g t))) 2) (insert_json (owner_of g t) t) c (adds_none P c (insert_json (owner_of g t) t c) refl)

      abbrev WrapperPut : ℕ → Type 0
      WrapperPut t =
          normal g (owner_of g t) ≡ true → eqb (wrap (module_of g (owner_of g t))) 2 ≡ true → (n : ℕ) → optional (wrapper (module_of g (owner_of g t))) ≡ found n → not (eqb n t) ≡ true
          → P (symbol_item n 1)

      abbrev of_target : ℕ → ℕ → ℕ → Context → Context
      of_target s t x c =
          let a = enqueue_declaring_statements g t (note_json_self_reference g t x (demand_esm_initialization g s t c)) in
          elim (not (is_simulated_facade_chunk g t x)) [ true ↦ push (module_item (owner_of g t)) a | false ↦ a ]

      adds-body : (s t x : ℕ) (c : Context) → WrapperPut t → Adds P c (symbol_body g s t x c)
      unfolding symbol_body
      adds-body s t x c h =
          let c₁ = note_namespace_inclusion_reason g t x c in
          let c₂ = insert_used t c₁ in
          let c₃ = elim (not (normal g (owner_of g t))) as (λ b. Context) [ true ↦ insert_external t c₂ | false ↦ c₂ ] in
          let c₄ = elim (normal g (owner_of g t)) as (λ b. Context) [ true ↦ of_target s t x c₃ | false ↦ c₃ ] in
          adds_then P c c₄ _
          (adds_then P c c₃ c₄
          (adds_then P c c₂ c₃ (adds_then P c c₁ c₂ (adds-note t x c) (adds-used t c₁)) (adds_when P (not (normal g (owner_of g t))) (insert_external t) c₂ (adds-external t c₂)))
          (adds_if (normal g (owner_of g t)) (of_target s t x) c₃ (λ n. target c₃ n)))
          (adds-writes P g ps s c₄)
        where
          target : (c : Context) → normal g (owner_of g t) ≡ true → Adds P c (of_target s t x c)
          target c n =
              let e₁ = demand_esm_initialization g s t c in
              let e₂ = note_json_self_reference g t x e₁ in
              let e₃ = enqueue_declaring_statements g t e₂ in
              adds_then P c e₃ _ (adds_then P c e₂ e₃ (adds_then P c e₁ e₂ (adds-initialization s t c (h n)) (adds-json t x e₁)) (adds-declaring P g ps t e₂))
              (adds_when P (not (is_simulated_facade_chunk g t x)) (push (module_item (owner_of g t))) e₃ (adds_push P (module_item (owner_of g t)) e₃ (pm (owner_of g t))))

module _ (g : Graph) (s x : ℕ) where
  abbrev v : List ℕ
  v = last_verdicts g

  -- a use that (s, x) gives; of other items nothing is said
  abbrev pub Given : WorkItem → Type 0
  Given (module_item m) = Unit {0}
  Given (symbol_item t y) = GivesUse g s x t y
  Given (statement_item m i) = Unit {0}

  abbrev GivenFact : Fact → Type 0
  GivenFact (Module m) = Unit {0}
  GivenFact (Statement m i) = Unit {0}
  GivenFact (Use t y) = GivesUse g s x t.0 y.bits
  GivenFact (CheckedUse t y) = Unit {0}
  GivenFact (Forward t) = Unit {0}
  GivenFact (Bailout m) = Unit {0}

  abbrev of_given : World g v
  of_given = record { fact = GivenFact; used = λ t. Unit {0}; external = λ t. Unit {0}; json = λ t. Unit {0}; reason = λ m b. Unit {0} }

  all_given : (k : ℕ) → k < length (gives g v (use_fact s x)) → GivenFact (get_or (gives g v (use_fact s x)) k nothing_given).fact
  all_given k u = go (get_or (gives g v (use_fact s x)) k nothing_given).fact refl
    where
      go : (f : Fact) → (get_or (gives g v (use_fact s x)) k nothing_given).fact ≡ f → GivenFact f
      go (Module m) e = tt
      go (Statement m i) e = tt
      go (Use t y) e = at_place g s x t.0 y.bits (record { place = k; inside = u; is = e })
      go (CheckedUse t y) e = tt
      go (Forward t) e = tt
      go (Bailout m) e = tt

  asked : is_bypassed_inlined_constant g (canonical_ref_for g s) x ≡ false → Symbol g v s x of_given
  asked e =
      (links g).symbol_from of_given s x e all_given
      (record { rows-used = λ j h. tt; rows-external = λ j h. tt; rows-json = λ j h. tt; rows-reason = λ m b h. tt })

  pub adds_symbol : (c : Context) → Adds Given c (handle_include_symbol g v s x c)
  unfolding handle_include_symbol
  adds_symbol c = go (is_bypassed_inlined_constant g (canonical_ref_for g s) x) (λ e. asked e)
    where
      root : ℕ
      root = canonical_ref_for g s

      t : ℕ
      t = alias_target root (optional (alias_namespace (symbol_of g root)))

      d₁ : Context
      d₁ = when_do (not (flag 4 x)) (drain_body_demand_stmts g v root) c

      d₂ : Context
      d₂ = insert_used s d₁

      d₃ : Context
      d₃ = when_do (not (normal g (owner_of g s))) (insert_external s) d₂

      d₄ : Context
      d₄ = follow_cjs_namespace_alias g root (optional (alias_namespace (symbol_of g root))) d₃

      ps : (m i : ℕ) → Unit {0}
      ps m i = tt

      pm : (m : ℕ) → Unit {0}
      pm m = tt

      put : Symbol g v s x of_given → Adds Given c (symbol_body g s t x d₄)
      put a =
          adds_then Given c d₄ _
          (adds_then Given c d₃ d₄
          (adds_then Given c d₂ d₃
          (adds_then Given c d₁ d₂ (adds_when Given (not (flag 4 x)) (drain_body_demand_stmts g v root) c (adds-demand Given g ps v root c)) (adds-used Given g ps pm s d₁))
          (adds_when Given (not (normal g (owner_of g s))) (insert_external s) d₂ (adds-external Given g ps pm s d₂)))
          (adds-alias Given g root (optional (alias_namespace (symbol_of g root))) d₃ a.0.1))
          (adds-body Given g ps pm s t x d₄ (λ n w k q r. ((a.1.0.1 n).0.0.0 w k q r).0))

      go : (b : Bool) → (b ≡ false → Symbol g v s x of_given) → Adds Given c (elim b [ true ↦ c | false ↦ symbol_body g s t x d₄ ])
      go true a = adds_none Given c c refl
      go false a = put (a refl)
