-- Each function of the engine puts items on top of the queue and takes none from it. Those that a use puts there are modules, statements, and uses
-- that it gives (K11, K12).
use Prim.Native.Nat.{ℕ}
use mathlib.Core.Path.{◌≡◌, refl, ap, ◌∙◌, sym, subst}
use mathlib.Core.Logic.{◌⊎◌, inl, inr}
use mathlib.Core.Bool.{Bool, true, false, ◌&&◌, ◌||◌, not}
use mathlib.Core.List.{List, [], ◌∷◌, ◌++◌}
use lib.Dec.{eqb, ltb}
use lib.ListN.{get_or}
use Rattle.determine_side_effects.specs.graph_crate.Check.{Graph}
use Rattle.determine_side_effects.specs.graph_access_crate.Names.{exports, module_type, flags, import_records, dependencies, named_imports, common_js_export_symbols, only, import_record_target, import_record_bits, import_record_kind, alias_namespace, alias_name, export_chain, declaring_statements, written_property_statements, statement_bits, statement_import_records, references, reference_kind, reference_symbol, reference_flag, depended_on, reexport_count}
use Rattle.determine_side_effects.specs.graph_access_crate.Words.{flag, module_of, symbol_of, statement_of, normal, option}
use Rattle.keep_record.specs.Lines.{elem}
use Rattle.rust_values.specs.Values.{In, Found, none, found, optional, get}
use Rattle.rust_values.proofs.Members.{in_append}
use Rattle.rust_engine.specs.Context.{WorkItem, module_item, symbol_item, statement_item, Context, push, insert_reason, insert_bailout, insert_swept, set_deferred, for_each, when as when_do}
use Rattle.rust_engine.specs.Tables.{canonical_ref_for, owner_of, has_side_effects, import_record_ns_to_cjs_module, is_module_namespace, iter_enumerated_without_namespace_stmt}
use Rattle.rust_engine.specs.OnDemand.{is_gated_side_effect_stmt, compute_body_demand_keys}
use Rattle.rust_engine.specs.Engine.{bailout_of, default_bailout, check_cjs_bailout, push_symbol_and_check_cjs_bailout, enqueue_declaring_statements, defer, retain_forwarding_declaration, retain_forwarding_declarations, waiting_for, waiting_for_others, drain_deferred, sweeps, sweep_side_effect_statements, include_whole, include_statements_without_treeshaking, include_dependency, index_set, include_side_effectful_dependencies, Orders, module_body, sweep_body, drain_body_demand_stmts, include_property_write_referencing_stmts, scan_record, scan_one, scan_import_records_for_cjs_bailout, is_inlined_enum_member_access, include_kind, include_plain, include_resolved, include_reference}

-- from c to d items with P were put on top
pub record Adds (P : WorkItem → Type 0) (c d : Context) : Type 0 where
  pub items : List WorkItem
  pub pending_is : d.pending ≡ items ++ c.pending
  pub each : (i : WorkItem) → In i items → P i

append_assoc : (xs ys zs : List WorkItem) → xs ++ (ys ++ zs) ≡ (xs ++ ys) ++ zs
append_assoc [] ys zs = refl
append_assoc (x ∷ xs) ys zs = ap (λ l. x ∷ l) (append_assoc xs ys zs)

module _ (P : WorkItem → Type 0) where
  pub adds_none : (c d : Context) → d.pending ≡ c.pending → Adds P c d
  adds_none c d e = record { items = []; pending_is = e; each = λ i h. absurd h }

  pub adds_push : (i : WorkItem) (c : Context) → P i → Adds P c (push i c)
  unfolding push
  adds_push i c p = record { items = i ∷ []; pending_is = refl; each = one }
    where
      one : (j : WorkItem) → (j ≡ i) ⊎ ⊥ → P j
      one j (inl e) = subst P (sym e) p
      one j (inr h) = absurd h

  pub adds_then : (c d e : Context) → Adds P c d → Adds P d e → Adds P c e
  adds_then c d e a b =
      record {
        items = b.items ++ a.items;
        pending_is = b.pending_is ∙ (ap (λ l. b.items ++ l) a.pending_is ∙ append_assoc b.items a.items c.pending);
        each = λ i h. go i (in_append i b.items a.items h);
      }
    where
      go : (i : WorkItem) → In i b.items ⊎ In i a.items → P i
      go i (inl h) = b.each i h
      go i (inr h) = a.each i h

  pub adds_when : (b : Bool) (f : Context → Context) (c : Context) → Adds P c (f c) → Adds P c (elim b [ true ↦ f c | false ↦ c ])
  adds_when true f c a = a
  adds_when false f c a = adds_none c c refl

  pub adds_each : {A : Type 0} (f : A → Context → Context) (xs : List A) (c : Context) → ((x : A) (d : Context) → Adds P d (f x d)) → Adds P c (for_each f xs c)
  unfolding for_each
  adds_each f [] c h = adds_none c c refl
  adds_each f (x ∷ xs) c h = adds_then c (f x c) (for_each f xs (f x c)) (h x c) (adds_each f xs (f x c) h)

  module _ (g : Graph) where
    adds-bailout-of : (r : Found) (c : Context) → Adds P c (bailout_of r c)
    unfolding bailout_of insert_bailout
    adds-bailout-of none c = adds_none c c refl
    adds-bailout-of (found m) c = adds_none c (bailout_of (found m) c) refl

    adds-insert-bailout : (m : ℕ) (c : Context) → Adds P c (insert_bailout m c)
    unfolding insert_bailout
    adds-insert-bailout m c = adds_none c (insert_bailout m c) refl

    adds-default : (s : ℕ) (r : Found) (c : Context) → Adds P c (default_bailout g s r c)
    unfolding default_bailout
    adds-default s none c = adds_none c c refl
    adds-default s (found n) c =
        adds_when (eqb (alias_name (symbol_of g s)) 0) (bailout_of (import_record_ns_to_cjs_module g n)) c (adds-bailout-of (import_record_ns_to_cjs_module g n) c)

    pub adds-check : (s : ℕ) (c : Context) → Adds P c (check_cjs_bailout g s c)
    unfolding check_cjs_bailout
    adds-check s c =
        let t = canonical_ref_for g s in
        let c₁ = bailout_of (import_record_ns_to_cjs_module g t) c in
        let c₂ = when_do (is_module_namespace g t) (insert_bailout (owner_of g t)) c₁ in
        adds_then c c₂ _ (adds_then c c₁ c₂ (adds-bailout-of (import_record_ns_to_cjs_module g t) c)
        (adds_when (is_module_namespace g t) (insert_bailout (owner_of g t)) c₁ (adds-insert-bailout (owner_of g t) c₁)))
        (adds-default t (optional (alias_namespace (symbol_of g t))) c₂)

    pub adds-checked : (s x : ℕ) (c : Context) → P (symbol_item s x) → Adds P c (push_symbol_and_check_cjs_bailout g s x c)
    unfolding push_symbol_and_check_cjs_bailout
    adds-checked s x c p = adds_then c (push (symbol_item s x) c) _ (adds_push (symbol_item s x) c p) (adds-check s (push (symbol_item s x) c))

    -- what pushes statements and modules only
    module _ (ps : (m i : ℕ) → P (statement_item m i)) where
      pub adds-declaring : (s : ℕ) (c : Context) → Adds P c (enqueue_declaring_statements g s c)
      unfolding enqueue_declaring_statements
      adds-declaring s c =
          adds_when (normal g (owner_of g s)) (for_each (λ row. push (statement_item (owner_of g s) (only row))) (declaring_statements (symbol_of g s))) c
          (adds_each (λ row. push (statement_item (owner_of g s) (only row))) (declaring_statements (symbol_of g s)) c
          (λ row d. adds_push (statement_item (owner_of g s) (only row)) d (ps (owner_of g s) (only row))))

      adds-defer : (s : ℕ) (c : Context) → Adds P c (defer s c)
      unfolding defer set_deferred
      adds-defer s c = go (elem s c.deferred)
        where
          go : (b : Bool) → Adds P c (elim b [ true ↦ c | false ↦ set_deferred (c.deferred ++ (s ∷ [])) c ])
          go true = adds_none c c refl
          go false = adds_none c (set_deferred (c.deferred ++ (s ∷ [])) c) refl

      adds-forward : (s : ℕ) (c : Context) → Adds P c (retain_forwarding_declaration g s c)
      unfolding retain_forwarding_declaration
      adds-forward s c = go (elem (owner_of g s) c.modules)
        where
          go : (b : Bool) → Adds P c (elim b [ true ↦ enqueue_declaring_statements g s c | false ↦ defer s c ])
          go true = adds-declaring s c
          go false = adds-defer s c

      pub adds-forwards : (s : ℕ) (c : Context) → Adds P c (retain_forwarding_declarations g s c)
      unfolding retain_forwarding_declarations
      adds-forwards s c =
          adds_then c (retain_forwarding_declaration g s c) _ (adds-forward s c)
          (adds_each (λ row. retain_forwarding_declaration g (only row)) (export_chain (symbol_of g s)) (retain_forwarding_declaration g s c) (λ row d. adds-forward (only row) d))

      pub adds-deferred : (m : ℕ) (c : Context) → Adds P c (drain_deferred g m c)
      unfolding drain_deferred set_deferred
      adds-deferred m c =
          let d = set_deferred (waiting_for_others g m c.deferred) c in
          adds_then c d _ (adds_none c d refl) (adds_each (enqueue_declaring_statements g) (waiting_for g m c.deferred) d (λ s e. adds-declaring s e))

      -- 000: statements of a module
      adds-sweep : (v : List ℕ) (m : ℕ) (c : Context) → Adds P c (sweep_side_effect_statements g v m c)
      unfolding sweep_side_effect_statements
      adds-sweep v m c =
          adds_each (λ i. when_do (sweeps g v m i) (push (statement_item m i))) (iter_enumerated_without_namespace_stmt g m) c
          (λ i d. adds_when (sweeps g v m i) (push (statement_item m i)) d (adds_push (statement_item m i) d (ps m i)))

      adds-whole-one : (m i : ℕ) (c : Context) → Adds P c (include_whole g m i c)
      unfolding include_whole
      adds-whole-one m i c = go (flag 2 (statement_bits (statement_of g m i)))
        where
          go : (b : Bool) → Adds P c (elim b [ true ↦ elim (flag 0 (statement_bits (statement_of g m i))) [ true ↦ push (statement_item m i) c | false ↦ c ] | false ↦ push (statement_item m i) c ])
          go true = adds_when (flag 0 (statement_bits (statement_of g m i))) (push (statement_item m i)) c (adds_push (statement_item m i) c (ps m i))
          go false = adds_push (statement_item m i) c (ps m i)

      adds-whole : (m : ℕ) (c : Context) → Adds P c (include_statements_without_treeshaking g m c)
      unfolding include_statements_without_treeshaking
      adds-whole m c = adds_each (include_whole g m) (iter_enumerated_without_namespace_stmt g m) c (λ i d. adds-whole-one m i d)

      -- K10
      adds-body : (r : Found) (c : Context) → Adds P c (sweep_body g r c)
      unfolding sweep_body insert_swept
      adds-body none c = adds_none c c refl
      adds-body (found b) c = go (elem b c.swept)
        where
          d : Context
          d = insert_swept b c

          none-put : Adds P c d
          none-put = adds_none c d refl

          go : (q : Bool) → Adds P c (elim q [ true ↦ c | false ↦ when_do (normal g b) (for_each (λ i. when_do (is_gated_side_effect_stmt (statement_of g b i)) (push (statement_item b i))) (iter_enumerated_without_namespace_stmt g b)) (insert_swept b c) ])
          go true = adds_none c c refl
          go false =
              adds_then c d _ none-put
              (adds_when (normal g b) (for_each (λ i. when_do (is_gated_side_effect_stmt (statement_of g b i)) (push (statement_item b i))) (iter_enumerated_without_namespace_stmt g b)) d
              (adds_each (λ i. when_do (is_gated_side_effect_stmt (statement_of g b i)) (push (statement_item b i))) (iter_enumerated_without_namespace_stmt g b) d
              (λ i e. adds_when (is_gated_side_effect_stmt (statement_of g b i)) (push (statement_item b i)) e (adds_push (statement_item b i) e (ps b i)))))

      pub adds-demand : (v : List ℕ) (s : ℕ) (c : Context) → Adds P c (drain_body_demand_stmts g v s c)
      unfolding drain_body_demand_stmts
      adds-demand v s c = adds-body (get s (compute_body_demand_keys g v)) c

      -- K14
      pub adds-writes : (s : ℕ) (c : Context) → Adds P c (include_property_write_referencing_stmts g s c)
      unfolding include_property_write_referencing_stmts
      adds-writes s c =
          let f = for_each (λ row. push (statement_item (owner_of g s) (only row))) (written_property_statements (symbol_of g s)) in
          adds_when (option g 3) (when_do (normal g (owner_of g s)) f) c
          (adds_when (normal g (owner_of g s)) f c
          (adds_each (λ row. push (statement_item (owner_of g s) (only row))) (written_property_statements (symbol_of g s)) c
          (λ row d. adds_push (statement_item (owner_of g s) (only row)) d (ps (owner_of g s) (only row)))))

    -- the bodies of modules and of statements: any items
    module _ (all : (i : WorkItem) → P i) where
      adds-dependency : (v : List ℕ) (n : ℕ) (c : Context) → Adds P c (include_dependency g v n c)
      unfolding include_dependency
      adds-dependency v n c = go (elem n c.modules)
        where
          go : (b : Bool) → Adds P c (elim b [ true ↦ c | false ↦ when_do (normal g n) (when_do (not (option g 0) || has_side_effects v n) (push (module_item n))) c ])
          go true = adds_none c c refl
          go false =
              adds_when (normal g n) (when_do (not (option g 0) || has_side_effects v n) (push (module_item n))) c
              (adds_when (not (option g 0) || has_side_effects v n) (push (module_item n)) c (adds_push (module_item n) c (all (module_item n))))

      adds-checked-all : (rows : List (List ℕ)) (c : Context) → Adds P c (for_each (λ row. push_symbol_and_check_cjs_bailout g (only row) 1) rows c)
      adds-checked-all rows c = adds_each (λ row. push_symbol_and_check_cjs_bailout g (only row) 1) rows c (λ row d. adds-checked (only row) 1 d (all (symbol_item (only row) 1)))

      pub adds-module : (v : List ℕ) (order : Orders) (m : ℕ) (c : Context) → Adds P c (module_body g v order m c)
      unfolding module_body include_side_effectful_dependencies insert_reason
      adds-module v order m c =
          let ps : (m i : ℕ) → P (statement_item m i) = λ m i. all (statement_item m i) in
          let shaken = option g 0 && not (eqb (get_or v m 0) 4) in
          let c₁ = elim shaken as (λ b. Context) [ true ↦ sweep_side_effect_statements g v m c | false ↦ include_statements_without_treeshaking g m c ] in
          let c₂ = include_side_effectful_dependencies g v m c₁ in
          let eval = flag 0 (flags (module_of g m)) && ltb (module_type (module_of g m)) 2 in
          let imports = for_each (λ row. push_symbol_and_check_cjs_bailout g (only row) 1) (order.of_imports (named_imports (module_of g m))) in
          let c₃ = when_do eval imports c₂ in
          let c₄ = for_each (λ row. push_symbol_and_check_cjs_bailout g (only row) 1) (order.of_exports (common_js_export_symbols (module_of g m))) c₃ in
          let dev = option g 4 && (not (eqb m g.header.runtime) && eqb (exports (module_of g m)) 0) in
          adds_then c c₄ _
          (adds_then c c₃ c₄
          (adds_then c c₂ c₃
          (adds_then c c₁ c₂ (swept shaken)
          (adds_each (include_dependency g v) (index_set [] (dependencies (module_of g m))) c₁ (λ n d. adds-dependency v n d)))
          (adds_when eval imports c₂ (adds-checked-all (order.of_imports (named_imports (module_of g m))) c₂)))
          (adds-checked-all (order.of_exports (common_js_export_symbols (module_of g m))) c₃))
          (adds_when dev (λ c. insert_reason m 1 (push (statement_item m 0) c)) c₄
          (adds_then c₄ (push (statement_item m 0) c₄) _ (adds_push (statement_item m 0) c₄ (all (statement_item m 0)))
          (adds_none (push (statement_item m 0) c₄) (insert_reason m 1 (push (statement_item m 0) c₄)) refl)))
        where
          swept : (b : Bool) → Adds P c (elim b [ true ↦ sweep_side_effect_statements g v m c | false ↦ include_statements_without_treeshaking g m c ])
          swept true = adds-sweep (λ m i. all (statement_item m i)) v m c
          swept false = adds-whole (λ m i. all (statement_item m i)) m c

      -- statements
      adds-scan : (v : List ℕ) (m : ℕ) (row : List ℕ) (r : Found) (c : Context) → Adds P c (scan_record g v m row r c)
      unfolding scan_record
      adds-scan v m row none c = adds_none c c refl
      adds-scan v m row (found t) c =
          let f : Context → Context = λ c. elim (flag 2 (flags (module_of g m))) [ true ↦ when_do (ltb 1 (reexport_count (module_of g m))) (insert_bailout t) c | false ↦ insert_bailout t c ] in
          let a = not (flag 1 (import_record_bits row) && not (has_side_effects v t)) in
          let b = not (not (eqb (exports (module_of g t)) 1) || eqb (import_record_kind row) 0) in
          adds_when (normal g t) (when_do b (when_do a f)) c (adds_when b (when_do a f) c (adds_when a f c (last (flag 2 (flags (module_of g m))))))
        where
          last : (b : Bool) → Adds P c (elim b [ true ↦ when_do (ltb 1 (reexport_count (module_of g m))) (insert_bailout t) c | false ↦ insert_bailout t c ])
          last true = adds_when (ltb 1 (reexport_count (module_of g m))) (insert_bailout t) c (adds-insert-bailout t c)
          last false = adds-insert-bailout t c

      adds-records : (v : List ℕ) (m i : ℕ) (c : Context) → Adds P c (scan_import_records_for_cjs_bailout g v m i c)
      unfolding scan_import_records_for_cjs_bailout scan_one
      adds-records v m i c =
          adds_each (λ k. scan_one g v m (get_or (import_records (module_of g m)) (only k) [])) (statement_import_records (statement_of g m i)) c
          (λ k d. adds-scan v m (get_or (import_records (module_of g m)) (only k) []) (optional (import_record_target (get_or (import_records (module_of g m)) (only k) []))) d)

      adds-plain : (kind : ℕ) (row : List ℕ) (c : Context) → Adds P c (include_plain g kind row c)
      unfolding include_plain
      adds-plain kind row c =
          adds_then c (retain_forwarding_declarations g (reference_symbol row) c) _ (adds-forwards (λ m i. all (statement_item m i)) (reference_symbol row) c)
          (adds-checked (reference_symbol row) kind (retain_forwarding_declarations g (reference_symbol row) c) (all (symbol_item (reference_symbol row) kind)))

      adds-resolved : (kind : ℕ) (row : List ℕ) (c : Context) → Adds P c (include_resolved g kind row c)
      unfolding include_resolved
      adds-resolved kind row c =
          let s = reference_symbol row in
          let c₁ = for_each (retain_forwarding_declaration g) (depended_on row) c in
          let c₂ = push (symbol_item s kind) c₁ in
          adds_then c c₂ _
          (adds_then c c₁ c₂ (adds_each (retain_forwarding_declaration g) (depended_on row) c (λ t d. adds-forward (λ m i. all (statement_item m i)) t d))
          (adds_push (symbol_item s kind) c₁ (all (symbol_item s kind))))
          (adds_when (not (eqb (reference_flag row) 1)) (check_cjs_bailout g s) c₂ (adds-check s c₂))

      adds-reference : (kind : ℕ) (row : List ℕ) (c : Context) → Adds P c (include_reference g kind row c)
      unfolding include_reference
      adds-reference kind row c = go (eqb (reference_kind row) 0) (eqb (reference_kind row) 1) (eqb (reference_kind row) 2) (is_inlined_enum_member_access g row)
        where
          go : (p q r t : Bool)
              → Adds P c (elim p [
                | true ↦ include_plain g kind row c
                | false ↦ elim q
                    [ true ↦ c | false ↦ elim r [ true ↦ include_resolved g kind row c | false ↦ elim t [ true ↦ c | false ↦ include_plain g kind row c ] ] ]
              ])
          go true q r t = adds-plain kind row c
          go false true r t = adds_none c c refl
          go false false true t = adds-resolved kind row c
          go false false false true = adds_none c c refl
          go false false false false = adds-plain kind row c

      pub adds-statement : (v : List ℕ) (m i : ℕ) (c : Context)
          → Adds P c (for_each (include_reference g (include_kind g m i)) (references (statement_of g m i)) (scan_import_records_for_cjs_bailout g v m i c))
      adds-statement v m i c =
          adds_then c (scan_import_records_for_cjs_bailout g v m i c) _ (adds-records v m i c)
          (adds_each (include_reference g (include_kind g m i)) (references (statement_of g m i)) (scan_import_records_for_cjs_bailout g v m i c)
          (λ row d. adds-reference (include_kind g m i) row d))
