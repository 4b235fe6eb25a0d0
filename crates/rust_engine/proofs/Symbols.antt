-- `handle_include_symbol` asks for what K10 to K14 give and for the rows.
use Rattle.std.proofs.Common.{◌≡◌, ℕ, ◌-◌, Bool, true, false, not, ◌&&◌, ◌||◌, eqb, List, sym, refl, subst}
use mathlib.Core.Bool.{false≢true}
use Rattle.determine_side_effects.specs.graph_crate.Check.{Graph}
use Rattle.determine_side_effects.specs.graph_access_crate.Names.{module_type, wrap, wrapper, only, alias_namespace, alias_name, resolved_exports, written_property_statements}
use Rattle.determine_side_effects.specs.graph_access_crate.Words.{flag, symbol_of, module_of, normal, option}
use Rattle.determine_side_effects.specs.facts_crate.Facts.{module_fact, statement_fact, use_fact}
use Rattle.rust_values.specs.Values.{In, Found, none, found, optional, get}
use Rattle.rust_engine.specs.Context.{Context, module_item, symbol_item, statement_item, push, insert_used, insert_external, insert_json, insert_reason, for_each, when as when_do}
use Rattle.rust_engine.specs.Tables.{owner_of, canonical_ref_for, import_record_ns_to_cjs_module, resolved_export, is_module_namespace}
use Rattle.rust_engine.specs.OnDemand.{compute_body_demand_keys}
use Rattle.rust_engine.specs.Engine.{enqueue_declaring_statements, retain_forwarding_declarations, is_bypassed_inlined_constant, drain_body_demand_stmts, alias_target, push_export, include_named_export, follow_cjs_namespace_alias, note_namespace_inclusion_reason, is_simulated_facade_chunk, demand_wrapper, demand_esm_initialization, note_json_self_reference, include_property_write_referencing_stmts, symbol_body, handle_include_symbol}
use Rattle.rust_engine.proofs.Bailing.{none_found, found_same}
use Rattle.rust_engine.proofs.Forwarding.{Declares, asks_declaring, Forwards, asks_forwards}
use Rattle.rust_engine.proofs.Demanding.{Gated, asks-demand}
use Rattle.rust_engine.proofs.Asking.{World, Asks, asks_nothing, asks_then, asks_when, asks_each, asks_as}
use Rattle.rust_engine.proofs.Inserting.{Item, asks_push, asks_used, asks_external, asks_json, asks_reason}

module _ (g : Graph) (v : List ℕ) where
  abbrev W : Type 1
  W = World g v

  -- K11, follow_cjs_namespace_alias
  abbrev pub Alias : ℕ → Found → W → Type 0
  Alias root r w = (n : ℕ) → r ≡ found n → (idx : ℕ) → import_record_ns_to_cjs_module g n ≡ found idx → normal g idx ≡ true
      → (e : ℕ) → resolved_export (alias_name (symbol_of g root)) (resolved_exports (module_of g idx)) ≡ found e → not (eqb (alias_name (symbol_of g root)) 0) ≡ true
      → w.fact (use_fact e 1)

  asks_export : (name : ℕ) (r : Found) (c : Context)
      → Asks g v (λ w. (e : ℕ) → r ≡ found e → not (eqb name 0) ≡ true → w.fact (use_fact e 1)) c (push_export r name c)
  unfolding push_export
  asks_export name none c =
      asks_as g v (λ w. Unit {0}) (λ w. (e : ℕ) → none ≡ found e → not (eqb name 0) ≡ true → w.fact (use_fact e 1)) c c (λ w q. tt)
      (λ w p e q. absurd (none_found e q)) (asks_nothing g v c)
  asks_export name (found s) c =
      asks_as g v (λ w. not (eqb name 0) ≡ true → w.fact (use_fact s 1))
      (λ w. (e : ℕ) → found s ≡ found e → not (eqb name 0) ≡ true → w.fact (use_fact e 1)) c _ (λ w q. q s refl)
      (λ w p e q. subst (λ x. not (eqb name 0) ≡ true → w.fact (use_fact x 1)) (found_same s e q) p)
      (asks_when g v (not (eqb name 0)) (Item g v (symbol_item s 1)) (push (symbol_item s 1)) c (λ e. asks_push g v (symbol_item s 1) c))

  asks_named : (name : ℕ) (r : Found) (c : Context)
      → Asks g v (λ w. (idx : ℕ) → r ≡ found idx → normal g idx ≡ true → (e : ℕ) → resolved_export name (resolved_exports (module_of g idx)) ≡ found e
      → not (eqb name 0) ≡ true → w.fact (use_fact e 1)) c (include_named_export g name r c)
  unfolding include_named_export
  asks_named name none c =
      asks_as g v (λ w. Unit {0}) (λ w. (idx : ℕ) → none ≡ found idx → normal g idx ≡ true → (e : ℕ) → resolved_export name
      (resolved_exports (module_of g idx)) ≡ found e → not (eqb name 0) ≡ true → w.fact (use_fact e 1))
      c c (λ w q. tt) (λ w p i q. absurd (none_found i q)) (asks_nothing g v c)
  asks_named name (found i) c =
      asks_as g v (λ w. normal g i ≡ true → (e : ℕ) → resolved_export name (resolved_exports (module_of g i)) ≡ found e → not (eqb name 0) ≡ true → w.fact
      (use_fact e 1))
      (λ w. (idx : ℕ) → found i ≡ found idx → normal g idx ≡ true → (e : ℕ) → resolved_export name (resolved_exports (module_of g idx)) ≡ found e → not
      (eqb name 0) ≡ true → w.fact (use_fact e 1)) c _ (λ w q. q i refl)
      (λ w p idx q. subst (λ x. normal g x ≡ true → (e : ℕ) → resolved_export name (resolved_exports (module_of g x)) ≡ found e → not (eqb name 0) ≡ true
      → w.fact (use_fact e 1)) (found_same i idx q) p)
      (asks_when g v (normal g i) (λ w. (e : ℕ) → resolved_export name (resolved_exports (module_of g i)) ≡ found e → not (eqb name 0) ≡ true → w.fact
      (use_fact e 1)) (push_export (resolved_export name (resolved_exports (module_of g i))) name) c
      (λ n. asks_export name (resolved_export name (resolved_exports (module_of g i))) c))

  asks_alias : (root : ℕ) (r : Found) (c : Context) → Asks g v (Alias root r) c (follow_cjs_namespace_alias g root r c)
  unfolding follow_cjs_namespace_alias
  asks_alias root none c = asks_as g v (λ w. Unit {0}) (Alias root none) c c (λ w q. tt) (λ w p n q. absurd (none_found n q)) (asks_nothing g v c)
  asks_alias root (found a) c =
      asks_as g v
      (λ w. (idx : ℕ) → import_record_ns_to_cjs_module g a ≡ found idx → normal g idx ≡ true → (e : ℕ) → resolved_export (alias_name (symbol_of g root))
      (resolved_exports (module_of g idx)) ≡ found e → not (eqb (alias_name (symbol_of g root)) 0) ≡ true → w.fact (use_fact e 1))
      (Alias root (found a)) c _ (λ w q. q a refl)
      (λ w p n q. subst (λ x. (idx : ℕ) → import_record_ns_to_cjs_module g x ≡ found idx → normal g idx ≡ true → (e : ℕ) → resolved_export
      (alias_name (symbol_of g root)) (resolved_exports (module_of g idx)) ≡ found e → not (eqb (alias_name (symbol_of g root)) 0) ≡ true → w.fact (use_fact e 1))
      (found_same a n q) p)
      (asks_named (alias_name (symbol_of g root)) (import_record_ns_to_cjs_module g a) c)

  -- note_namespace_inclusion_reason
  abbrev pub NotedBy : Bool → Bool → ℕ → W → Type 0
  NotedBy true d t w = w.reason (owner_of g t) 1
  NotedBy false true t w = w.reason (owner_of g t) 2
  NotedBy false false t w = Unit {0}

  abbrev pub Noted : ℕ → ℕ → W → Type 0
  Noted t x w = is_module_namespace g t ≡ true → NotedBy (flag 0 x || flag 1 x) (flag 2 x) t w

  asks_note : (t x : ℕ) (c : Context) → Asks g v (Noted t x) c (note_namespace_inclusion_reason g t x c)
  unfolding note_namespace_inclusion_reason
  asks_note t x c =
      asks_when g v (is_module_namespace g t) (NotedBy (flag 0 x || flag 1 x) (flag 2 x) t) (λ d. noted (flag 0 x || flag 1 x) (flag 2 x) d) c
      (λ e. ns (flag 0 x || flag 1 x) (flag 2 x))
    where
      noted : Bool → Bool → Context → Context
      noted b d c = elim b [ true ↦ insert_reason (owner_of g t) 1 c | false ↦ elim d [ true ↦ insert_reason (owner_of g t) 2 c | false ↦ c ] ]

      ns : (b d : Bool) → Asks g v (NotedBy b d t) c (noted b d c)
      ns true d = asks_reason g v (owner_of g t) 1 c
      ns false true = asks_reason g v (owner_of g t) 2 c
      ns false false = asks_nothing g v c

  -- K12, demand_esm_initialization
  abbrev pub Wrapper : ℕ → ℕ → W → Type 0
  Wrapper s t w =
      eqb (wrap (module_of g (owner_of g t))) 2 ≡ true → (n : ℕ) → optional (wrapper (module_of g (owner_of g t))) ≡ found n → not (eqb n t) ≡ true → w.fact
      (use_fact n 1) × Forwards g v s w

  asks_wrapped : (s t : ℕ) (r : Found) (c : Context)
      → Asks g v (λ w. (n : ℕ) → r ≡ found n → not (eqb n t) ≡ true → w.fact (use_fact n 1) × Forwards g v s w) c (demand_wrapper g s t r c)
  unfolding demand_wrapper
  asks_wrapped s t none c =
      asks_as g v (λ w. Unit {0}) (λ w. (n : ℕ) → none ≡ found n → not (eqb n t) ≡ true → w.fact (use_fact n 1) × Forwards g v s w) c c (λ w q. tt)
      (λ w p n q. absurd (none_found n q)) (asks_nothing g v c)
  asks_wrapped s t (found a) c =
      asks_as g v (λ w. not (eqb a t) ≡ true → w.fact (use_fact a 1) × Forwards g v s w)
      (λ w. (n : ℕ) → found a ≡ found n → not (eqb n t) ≡ true → w.fact (use_fact n 1) × Forwards g v s w) c _
      (λ w q. q a refl) (λ w p n q. subst (λ x. not (eqb x t) ≡ true → w.fact (use_fact x 1) × Forwards g v s w) (found_same a n q) p)
      (asks_when g v (not (eqb a t)) (λ w. w.fact (use_fact a 1) × Forwards g v s w) (λ d. retain_forwarding_declarations g s (push (symbol_item a 1) d)) c
      (λ e. asks_then g v (Item g v (symbol_item a 1)) (Forwards g v s) c (push (symbol_item a 1) c) _ (asks_push g v (symbol_item a 1) c)
      (asks_forwards g v s (push (symbol_item a 1) c))))

  asks_wrapper : (s t : ℕ) (c : Context) → Asks g v (Wrapper s t) c (demand_esm_initialization g s t c)
  unfolding demand_esm_initialization
  asks_wrapper s t c =
      asks_when g v (eqb (wrap (module_of g (owner_of g t))) 2)
      (λ w. (n : ℕ) → optional (wrapper (module_of g (owner_of g t))) ≡ found n → not (eqb n t) ≡ true → w.fact (use_fact n 1) × Forwards g v s w)
      (demand_wrapper g s t (optional (wrapper (module_of g (owner_of g t))))) c (λ e. asks_wrapped s t (optional (wrapper (module_of g (owner_of g t)))) c)

  -- the rows and statements of the target
  abbrev pub Target : ℕ → ℕ → ℕ → W → Type 0
  Target s t x w =
      ((Wrapper s t w × ((not (flag 3 x) && eqb (module_type (module_of g (owner_of g t))) 2) ≡ true → w.json t))
      × (normal g (owner_of g t) ≡ true → Declares g v t w)) × (not (is_simulated_facade_chunk g t x) ≡ true → w.fact (module_fact (owner_of g t)))

  abbrev InJson : ℕ → ℕ → W → Type 0
  InJson t x w = (not (flag 3 x) && eqb (module_type (module_of g (owner_of g t))) 2) ≡ true → w.json t

  asks_json_note : (t x : ℕ) (c : Context) → Asks g v (InJson t x) c (note_json_self_reference g t x c)
  unfolding note_json_self_reference
  asks_json_note t x c =
      asks_when g v (not (flag 3 x) && eqb (module_type (module_of g (owner_of g t))) 2) (λ w. w.json t) (insert_json (owner_of g t) t) c (λ e. asks_json g v t c)

  abbrev of_target : ℕ → ℕ → ℕ → Context → Context
  of_target s t x c =
      let a = enqueue_declaring_statements g t (note_json_self_reference g t x (demand_esm_initialization g s t c)) in
      elim (not (is_simulated_facade_chunk g t x)) [ true ↦ push (module_item (owner_of g t)) a | false ↦ a ]

  asks_target : (s t x : ℕ) (c : Context) → Asks g v (Target s t x) c (of_target s t x c)
  asks_target s t x c =
      asks_then g v (λ w. (Wrapper s t w × InJson t x w) × (normal g (owner_of g t) ≡ true → Declares g v t w))
      (λ w. not (is_simulated_facade_chunk g t x) ≡ true → w.fact (module_fact (owner_of g t))) c _ _
      (asks_then g v (λ w. Wrapper s t w × InJson t x w) (λ w. normal g (owner_of g t) ≡ true → Declares g v t w) c _ _
      (asks_then g v (Wrapper s t) (InJson t x) c _ _ (asks_wrapper s t c) (asks_json_note t x (demand_esm_initialization g s t c)))
      (asks_declaring g v t (note_json_self_reference g t x (demand_esm_initialization g s t c))))
      (asks_when g v (not (is_simulated_facade_chunk g t x)) (Item g v (module_item (owner_of g t))) (push (module_item (owner_of g t))) _
      (λ e. asks_push g v (module_item (owner_of g t)) _))

  -- K14, include_property_write_referencing_stmts
  abbrev pub Writes : ℕ → W → Type 0
  Writes s w =
      option g 3 ≡ true → normal g (owner_of g s) ≡ true → (row : List ℕ) → In row (written_property_statements (symbol_of g s)) → w.fact
      (statement_fact (owner_of g s) (only row))

  asks_writes : (s : ℕ) (c : Context) → Asks g v (Writes s) c (include_property_write_referencing_stmts g s c)
  unfolding include_property_write_referencing_stmts
  asks_writes s c =
      asks_when g v (option g 3) (λ w. normal g (owner_of g s) ≡ true → (row : List ℕ) → In row (written_property_statements (symbol_of g s)) → w.fact
      (statement_fact (owner_of g s) (only row)))
      (when_do (normal g (owner_of g s)) (for_each (λ row. push (statement_item (owner_of g s) (only row))) (written_property_statements (symbol_of g s)))) c
      (λ o. asks_when g v (normal g (owner_of g s))
      (λ w. (row : List ℕ) → In row (written_property_statements (symbol_of g s)) → w.fact (statement_fact (owner_of g s) (only row)))
      (for_each (λ row. push (statement_item (owner_of g s) (only row))) (written_property_statements (symbol_of g s))) c
      (λ n. asks_each g v (λ row. Item g v (statement_item (owner_of g s) (only row))) (λ row. push (statement_item (owner_of g s) (only row)))
      (written_property_statements (symbol_of g s)) c
      (λ row q d. asks_push g v (statement_item (owner_of g s) (only row)) d)))

  abbrev pub Body : ℕ → ℕ → ℕ → W → Type 0
  Body s t x w =
      (((Noted t x w × w.used t) × (not (normal g (owner_of g t)) ≡ true → w.external t)) × (normal g (owner_of g t) ≡ true → Target s t x w)) × Writes s w

  asks_body : (s t x : ℕ) (c : Context) → Asks g v (Body s t x) c (symbol_body g s t x c)
  unfolding symbol_body
  asks_body s t x c =
      let c₁ = note_namespace_inclusion_reason g t x c in
      let c₂ = insert_used t c₁ in
      let c₃ = elim (not (normal g (owner_of g t))) as (λ b. Context) [ true ↦ insert_external t c₂ | false ↦ c₂ ] in
      let c₄ = elim (normal g (owner_of g t)) as (λ b. Context) [ true ↦ of_target s t x c₃ | false ↦ c₃ ] in
      asks_then g v (λ w. ((Noted t x w × w.used t) × (not (normal g (owner_of g t)) ≡ true → w.external t)) ×
      (normal g (owner_of g t) ≡ true → Target s t x w)) (Writes s) c c₄ _
      (asks_then g v (λ w. (Noted t x w × w.used t) × (not (normal g (owner_of g t)) ≡ true → w.external t))
      (λ w. normal g (owner_of g t) ≡ true → Target s t x w) c c₃ c₄
      (asks_then g v (λ w. Noted t x w × w.used t) (λ w. not (normal g (owner_of g t)) ≡ true → w.external t) c c₂ c₃
      (asks_then g v (Noted t x) (λ w. w.used t) c c₁ c₂ (asks_note t x c) (asks_used g v t c₁))
      (asks_when g v (not (normal g (owner_of g t))) (λ w. w.external t) (insert_external t) c₂ (λ e. asks_external g v t c₂)))
      (asks_when g v (normal g (owner_of g t)) (Target s t x) (of_target s t x) c₃ (λ e. asks_target s t x c₃)))
      (asks_writes s c₄)

  -- what a use that is not bypassed asks for
  abbrev pub Symbol : ℕ → ℕ → W → Type 0
  Symbol s x w =
      ((((not (flag 4 x) ≡ true → (b : ℕ) → get (canonical_ref_for g s) (compute_body_demand_keys g v) ≡ found b → Gated g b w.fact) × w.used s)
      × (not (normal g (owner_of g s)) ≡ true → w.external s)) × Alias (canonical_ref_for g s) (optional (alias_namespace (symbol_of g (canonical_ref_for g s)))) w)
      × Body s (alias_target (canonical_ref_for g s) (optional (alias_namespace (symbol_of g (canonical_ref_for g s))))) x w

  module _ (s x : ℕ) (c : Context) where
    abbrev root : ℕ
    root = canonical_ref_for g s

    abbrev d₁ : Context
    d₁ = when_do (not (flag 4 x)) (drain_body_demand_stmts g v root) c

    abbrev d₂ : Context
    d₂ = insert_used s d₁

    abbrev d₃ : Context
    d₃ = when_do (not (normal g (owner_of g s))) (insert_external s) d₂

    abbrev d₄ : Context
    d₄ = follow_cjs_namespace_alias g root (optional (alias_namespace (symbol_of g root))) d₃

    abbrev d₅ : Context
    d₅ = symbol_body g s (alias_target root (optional (alias_namespace (symbol_of g root)))) x d₄

    asked : Asks g v (Symbol s x) c d₅
    asked =
        asks_then g v _ (Body s (alias_target root (optional (alias_namespace (symbol_of g root)))) x) c d₄ d₅
        (asks_then g v _ (Alias root (optional (alias_namespace (symbol_of g root)))) c d₃ d₄
        (asks_then g v _ (λ w. not (normal g (owner_of g s)) ≡ true → w.external s) c d₂ d₃
        (asks_then g v (λ w. not (flag 4 x) ≡ true → (b : ℕ) → get root (compute_body_demand_keys g v) ≡ found b → Gated g b w.fact) (λ w. w.used s) c d₁ d₂
        (asks_when g v (not (flag 4 x)) (λ w. (b : ℕ) → get root (compute_body_demand_keys g v) ≡ found b → Gated g b w.fact) (drain_body_demand_stmts g v root) c
        (λ e. asks-demand g v root c))
        (asks_used g v s d₁))
        (asks_when g v (not (normal g (owner_of g s))) (λ w. w.external s) (insert_external s) d₂ (λ e. asks_external g v s d₂)))
        (asks_alias root (optional (alias_namespace (symbol_of g root))) d₃))
        (asks_body s (alias_target root (optional (alias_namespace (symbol_of g root)))) x d₄)

    pub asks-symbol : is_bypassed_inlined_constant g root x ≡ false → Asks g v (Symbol s x) c (handle_include_symbol g v s x c)
    unfolding handle_include_symbol
    asks-symbol e = go (is_bypassed_inlined_constant g root x) e
      where
        go : (b : Bool) → b ≡ false → Asks g v (Symbol s x) c (elim b [ true ↦ c | false ↦ d₅ ])
        go true e = absurd (false≢true (sym e))
        go false e = asked

    -- a constant that is inlined asks for nothing
    pub bypassed-symbol : is_bypassed_inlined_constant g root x ≡ true → handle_include_symbol g v s x c ≡ c
    unfolding handle_include_symbol
    bypassed-symbol e = rw (e, handle_include_symbol) refl
