-- The engine of include_statements.rs (000), function by function under the Rust's names: a stack of work items, sets, no memory of uses.
-- Nothing here is taken from the keep rules: only the words of the decoded graph.
use Rattle.std.specs.Prelude.{◌≡◌, ℕ, zero, suc, ◌+◌, Bool, true, false, not, ◌&&◌, ◌||◌, List, [], ◌∷◌, ◌++◌, ◌==◌, nat_lt, slice_index, slice_index_or}
use Rattle.determine_side_effects.specs.graph_crate.Check.{Graph}
use Rattle.determine_side_effects.specs.graph_access_crate.Names.{exports, module_type, flags, wrap, wrapper, reexport_count, import_records, dependencies, named_imports, common_js_export_symbols, resolved_exports, enum_members, only, import_record_target, import_record_kind, import_record_bits, enum_name, enum_member, symbol_name, alias_namespace, alias_name, constant_bits, export_chain, declaring_statements, written_property_statements, statement_bits, statement_import_records, references, reference_kind, reference_symbol, reference_flag, property_count, first_property, depended_on}
use Rattle.determine_side_effects.specs.graph_access_crate.Words.{flag, some, module_of, symbol_of, statement_of, normal, option}
use Rattle.keep_record.specs.Lines.{elem}
use Rattle.rust_values.specs.Values.{has_pair, Found, none, found, optional, get, In, is_empty}
use Rattle.rust_engine.specs.Context.{WorkItem, module_item, symbol_item, statement_item, Context, push, rest, set_module, set_statement, insert_used, insert_external, insert_reason, insert_json, insert_bailout, insert_swept, set_deferred, set_changed, when, for_each, ◌▷◌}
use Rattle.rust_engine.specs.Tables.{canonical_ref_for, owner_of, has_side_effects, import_record_ns_to_cjs_module, resolved_export, is_module_namespace, iter_enumerated_without_namespace_stmt}
use Rattle.rust_engine.specs.OnDemand.{side_effects_included_on_demand, is_gated_side_effect_stmt, compute_body_demand_keys}

-- 000: the edges -----------------------------------------------------------------------------------------------------------------------

-- check_cjs_bailout (000:230-257)
unfoldable pub bailout_of : Found → Context → Context
bailout_of none c = c
bailout_of (found idx) c = insert_bailout idx c

unfoldable pub default_bailout : Graph → ℕ → Found → Context → Context
default_bailout g canonical none c = c
default_bailout g canonical (found namespaceRef) c = when (alias_name (symbol_of g canonical) == 0) (bailout_of (import_record_ns_to_cjs_module g namespaceRef)) c

unfoldable pub check_cjs_bailout : Graph → ℕ → Context → Context
check_cjs_bailout g s c =
    c
    ▷ bailout_of (import_record_ns_to_cjs_module g (canonical_ref_for g s))
    ▷ when (is_module_namespace g (canonical_ref_for g s)) (insert_bailout (owner_of g (canonical_ref_for g s)))
    ▷ default_bailout g (canonical_ref_for g s) (optional (alias_namespace (symbol_of g (canonical_ref_for g s))))

-- push_symbol_and_check_cjs_bailout (000:215-222)
unfoldable pub push_symbol_and_check_cjs_bailout : Graph → ℕ → ℕ → Context → Context
push_symbol_and_check_cjs_bailout g s x c = c ▷ push (symbol_item s x) ▷ check_cjs_bailout g s

-- enqueue_declaring_statements (000:507-515)
unfoldable pub enqueue_declaring_statements : Graph → ℕ → Context → Context
enqueue_declaring_statements g s c =
    when (normal g (owner_of g s)) (for_each (λ row. push (statement_item (owner_of g s) (only row))) (declaring_statements (symbol_of g s))) c

-- retain_forwarding_declaration (000:530-536): an index set, so a symbol that waits already stays where it is
unfoldable pub defer : ℕ → Context → Context
defer s c = elim (elem s c.deferred) [ true ↦ c | false ↦ set_deferred (c.deferred ++ (s ∷ [])) c ]

unfoldable pub retain_forwarding_declaration : Graph → ℕ → Context → Context
retain_forwarding_declaration g s c = elim (elem (owner_of g s) c.modules) [ true ↦ enqueue_declaring_statements g s c | false ↦ defer s c ]

-- retain_forwarding_declarations (000:521-528)
unfoldable pub retain_forwarding_declarations : Graph → ℕ → Context → Context
retain_forwarding_declarations g s c = c ▷ retain_forwarding_declaration g s ▷ for_each (λ row. retain_forwarding_declaration g (only row)) (export_chain (symbol_of g s))

-- 000: modules -------------------------------------------------------------------------------------------------------------------------

-- deferred_forwarding_refs.remove(&module_idx) (000:553): those of the module, and those of the others
unfoldable pub waiting_for : Graph → ℕ → List ℕ → List ℕ
waiting_for g m [] = []
waiting_for g m (s ∷ ss) = elim (owner_of g s == m) [ true ↦ s ∷ waiting_for g m ss | false ↦ waiting_for g m ss ]

unfoldable pub waiting_for_others : Graph → ℕ → List ℕ → List ℕ
waiting_for_others g m [] = []
waiting_for_others g m (s ∷ ss) = elim (owner_of g s == m) [ true ↦ waiting_for_others g m ss | false ↦ s ∷ waiting_for_others g m ss ]

unfoldable pub drain_deferred : Graph → ℕ → Context → Context
drain_deferred g m c = set_deferred (waiting_for_others g m c.deferred) c ▷ for_each (enqueue_declaring_statements g) (waiting_for g m c.deferred)

-- sweep_side_effect_statements (000:601-623)
unfoldable pub bail_eval : Graph → ℕ → ℕ → Bool
bail_eval g m i = flag 0 (flags (module_of g m)) && (flag 4 (statement_bits (statement_of g m i)) && not (i == 0))

unfoldable pub has_effect : Graph → ℕ → ℕ → Bool
has_effect g m i =
    elim (flag 1 (flags (module_of g m)) && option g 2)
    [ true ↦ flag 1 (statement_bits (statement_of g m i)) | false ↦ flag 0 (statement_bits (statement_of g m i)) ]

unfoldable pub sweeps : Graph → List ℕ → ℕ → ℕ → Bool
sweeps g v m i = (has_effect g m i && not (side_effects_included_on_demand g v m && is_gated_side_effect_stmt (statement_of g m i))) || bail_eval g m i

unfoldable pub sweep_side_effect_statements : Graph → List ℕ → ℕ → Context → Context
sweep_side_effect_statements g v m c = for_each (λ i. when (sweeps g v m i) (push (statement_item m i))) (iter_enumerated_without_namespace_stmt g m) c

-- include_statements_without_treeshaking (000:628-643)
unfoldable pub include_whole : Graph → ℕ → ℕ → Context → Context
include_whole g m i c =
    elim (flag 2 (statement_bits (statement_of g m i)))
    [ true ↦ when (flag 0 (statement_bits (statement_of g m i))) (push (statement_item m i)) c | false ↦ push (statement_item m i) c ]

unfoldable pub include_statements_without_treeshaking : Graph → ℕ → Context → Context
include_statements_without_treeshaking g m c = for_each (include_whole g m) (iter_enumerated_without_namespace_stmt g m) c

-- include_side_effectful_dependencies (000:647-675, of which 666-674 is tracing); `dependencies` is an index set, so each once, where it stands first
unfoldable pub index_set : List ℕ → List (List ℕ) → List ℕ
index_set before [] = []
index_set before (row ∷ rows) = elim (elem (only row) before) [ true ↦ index_set before rows | false ↦ only row ∷ index_set (only row ∷ before) rows ]

unfoldable pub include_dependency : Graph → List ℕ → ℕ → Context → Context
include_dependency g v d c =
    elim (elem d c.modules) [
      | true ↦ c
      | false ↦ when (normal g d) (when (not (option g 0) || has_side_effects v d) (push (module_item d))) c
    ]

unfoldable pub include_side_effectful_dependencies : Graph → List ℕ → ℕ → Context → Context
include_side_effectful_dependencies g v m c = for_each (include_dependency g v) (index_set [] (dependencies (module_of g m))) c

-- the orders in which a module's named imports (a map) and its CommonJS export symbols (a set) are gone through, each its own, and others at each step
pub record Orders : Type 0 where
  pub of_imports : List (List ℕ) → List (List ℕ)
  pub of_exports : List (List ℕ) → List (List ℕ)

-- any orders: the same elements
pub record Reorders (order : Orders) : Type 0 where
  pub from_imports : (xs : List (List ℕ)) (x : List ℕ) → In x (order.of_imports xs) → In x xs
  pub back_imports : (xs : List (List ℕ)) (x : List ℕ) → In x xs → In x (order.of_imports xs)
  pub from_exports : (xs : List (List ℕ)) (x : List ℕ) → In x (order.of_exports xs) → In x xs
  pub back_exports : (xs : List (List ℕ)) (x : List ℕ) → In x xs → In x (order.of_exports xs)

-- the lists' own
abbrev pub listed : Orders
listed = record { of_imports = λ xs. xs; of_exports = λ xs. xs }

-- handle_include_module behind the early return for the runtime (000:564-591)
unfoldable pub module_body : Graph → List ℕ → Orders → ℕ → Context → Context
module_body g v order m c =
    c
    ▷ (λ c. elim (option g 0 && not (slice_index v m == 4)) [ true ↦ sweep_side_effect_statements g v m c | false ↦ include_statements_without_treeshaking g m c ])
    ▷ include_side_effectful_dependencies g v m
    ▷ when (flag 0 (flags (module_of g m)) && nat_lt (module_type (module_of g m)) 2) (for_each (λ row. push_symbol_and_check_cjs_bailout g (only row) 1) (order.of_imports (named_imports (module_of g m))))
    ▷ for_each (λ row. push_symbol_and_check_cjs_bailout g (only row) 1) (order.of_exports (common_js_export_symbols (module_of g m)))
    ▷ when (option g 4 && (not (m == g.header.runtime) && exports (module_of g m) == 0)) (λ c. c ▷ push (statement_item m 0) ▷ insert_reason m 1)

-- handle_include_module (000:545-592)
unfoldable pub handle_include_module : Graph → List ℕ → Orders → ℕ → Context → Context
handle_include_module g v order m c =
    when (normal g m) (λ c. elim (elem m c.modules) [
      | true ↦ c
      | false ↦
          set_changed true (set_module m c)
          ▷ drain_deferred g m
          ▷ when (not (m == g.header.runtime && not (has_side_effects v m))) (module_body g v order m)
    ]) c

-- 000: symbols -------------------------------------------------------------------------------------------------------------------------

-- is_bypassed_inlined_constant (000:749-762), of the canonical symbol
unfoldable pub is_bypassed_inlined_constant : Graph → ℕ → ℕ → Bool
is_bypassed_inlined_constant g canonical x =
    flag 0 (constant_bits (symbol_of g canonical)) && (not (flag 1 x)
    && ((not (option g 1) || flag 1 (constant_bits (symbol_of g canonical))) && not (flag 2 (constant_bits (symbol_of g canonical)))))

-- drain_body_demand_stmts (000:770-786)
unfoldable pub sweep_body : Graph → Found → Context → Context
sweep_body g none c = c
sweep_body g (found b) c =
    elim (elem b c.swept) [
      | true ↦ c
      | false ↦
          insert_swept b c
          ▷ when (normal g b) (for_each (λ i. when (is_gated_side_effect_stmt (statement_of g b i)) (push (statement_item b i))) (iter_enumerated_without_namespace_stmt g b))
    ]

unfoldable pub drain_body_demand_stmts : Graph → List ℕ → ℕ → Context → Context
drain_body_demand_stmts g v canonical c = sweep_body g (get canonical (compute_body_demand_keys g v)) c

-- follow_cjs_namespace_alias (000:791-816): the symbol that it rewrites to, and what it pushes
unfoldable pub alias_target : ℕ → Found → ℕ
alias_target canonical none = canonical
alias_target canonical (found namespaceRef) = namespaceRef

unfoldable pub push_export : Found → ℕ → Context → Context
push_export none name c = c
push_export (found s) name c = when (not (name == 0)) (push (symbol_item s 1)) c

unfoldable pub include_named_export : Graph → ℕ → Found → Context → Context
include_named_export g name none c = c
include_named_export g name (found idx) c = when (normal g idx) (push_export (resolved_export name (resolved_exports (module_of g idx))) name) c

unfoldable pub follow_cjs_namespace_alias : Graph → ℕ → Found → Context → Context
follow_cjs_namespace_alias g canonical none c = c
follow_cjs_namespace_alias g canonical (found namespaceRef) c = include_named_export g (alias_name (symbol_of g canonical)) (import_record_ns_to_cjs_module g namespaceRef) c

-- note_namespace_inclusion_reason (000:932-951)
unfoldable pub note_namespace_inclusion_reason : Graph → ℕ → ℕ → Context → Context
note_namespace_inclusion_reason g t x c =
    when (is_module_namespace g t) (λ c. elim (flag 0 x || flag 1 x) [
      | true ↦ insert_reason (owner_of g t) 1 c
      | false ↦ when (flag 2 x) (insert_reason (owner_of g t) 2) c
    ]) c

unfoldable pub is_simulated_facade_chunk : Graph → ℕ → ℕ → Bool
is_simulated_facade_chunk g t x = is_module_namespace g t && flag 4 x

-- demand_esm_initialization (000:955-971)
unfoldable pub demand_wrapper : Graph → ℕ → ℕ → Found → Context → Context
demand_wrapper g s t none c = c
demand_wrapper g s t (found w) c = when (not (w == t)) (λ c. c ▷ push (symbol_item w 1) ▷ retain_forwarding_declarations g s) c

unfoldable pub demand_esm_initialization : Graph → ℕ → ℕ → Context → Context
demand_esm_initialization g s t c =
    when (wrap (module_of g (owner_of g t)) == 2) (demand_wrapper g s t (optional (wrapper (module_of g (owner_of g t))))) c

-- note_json_self_reference (000:975-990)
unfoldable pub note_json_self_reference : Graph → ℕ → ℕ → Context → Context
note_json_self_reference g t x c = when (not (flag 3 x) && module_type (module_of g (owner_of g t)) == 2) (insert_json (owner_of g t) t) c

-- include_property_write_referencing_stmts (000:994-1010)
unfoldable pub include_property_write_referencing_stmts : Graph → ℕ → Context → Context
include_property_write_referencing_stmts g s c =
    when (option g 3) (when (normal g (owner_of g s)) (for_each (λ row. push (statement_item (owner_of g s) (only row))) (written_property_statements (symbol_of g s)))) c

-- handle_include_symbol behind the alias (000:722-739), t the symbol that the alias leads to
unfoldable pub symbol_body : Graph → ℕ → ℕ → ℕ → Context → Context
symbol_body g s t x c =
    c
    ▷ note_namespace_inclusion_reason g t x
    ▷ insert_used t
    ▷ when (not (normal g (owner_of g t))) (insert_external t)
    ▷ when (normal g (owner_of g t)) (λ c. c
    ▷ demand_esm_initialization g s t
    ▷ note_json_self_reference g t x
    ▷ enqueue_declaring_statements g t
    ▷ when (not (is_simulated_facade_chunk g t x)) (push (module_item (owner_of g t))))
    ▷ include_property_write_referencing_stmts g s

-- handle_include_symbol (000:688-740)
unfoldable pub handle_include_symbol : Graph → List ℕ → ℕ → ℕ → Context → Context
handle_include_symbol g v s x c =
    elim (is_bypassed_inlined_constant g (canonical_ref_for g s) x) [
      | true ↦ c
      | false ↦
          c
          ▷ when (not (flag 4 x)) (drain_body_demand_stmts g v (canonical_ref_for g s))
          ▷ insert_used s
          ▷ when (not (normal g (owner_of g s))) (insert_external s)
          ▷ follow_cjs_namespace_alias g (canonical_ref_for g s) (optional (alias_namespace (symbol_of g (canonical_ref_for g s))))
          ▷ symbol_body g s (alias_target (canonical_ref_for g s) (optional (alias_namespace (symbol_of g (canonical_ref_for g s))))) x
    ]

-- 000: statements ----------------------------------------------------------------------------------------------------------------------

-- scan_import_records_for_cjs_bailout (000:1097-1140), one record of the statement
unfoldable pub scan_record : Graph → List ℕ → ℕ → List ℕ → Found → Context → Context
scan_record g v m row none c = c
scan_record g v m row (found t) c =
    when (normal g t) (when (not (not (exports (module_of g t) == 1) || import_record_kind row == 0)) (when (not (flag 1 (import_record_bits row) && not (has_side_effects v t)))
    (λ c. elim (flag 2 (flags (module_of g m))) [ true ↦ when (nat_lt 1 (reexport_count (module_of g m))) (insert_bailout t) c | false ↦ insert_bailout t c ]))) c

unfoldable pub scan_one : Graph → List ℕ → ℕ → List ℕ → Context → Context
scan_one g v m row = scan_record g v m row (optional (import_record_target row))

unfoldable pub scan_import_records_for_cjs_bailout : Graph → List ℕ → ℕ → ℕ → Context → Context
scan_import_records_for_cjs_bailout g v m i c = for_each (λ k. scan_one g v m (slice_index_or (import_records (module_of g m)) (only k) [])) (statement_import_records (statement_of g m i)) c

-- is_inlined_enum_member_access (000:1153-1169)
unfoldable pub is_inlined_enum_member_access : Graph → List ℕ → Bool
is_inlined_enum_member_access g row =
    normal g (owner_of g (canonical_ref_for g (reference_symbol row))) && (reference_flag row == 0 && (property_count row == 1
    && some (λ e. (enum_name e == symbol_name (symbol_of g (canonical_ref_for g (reference_symbol row)))) && enum_member e == first_property row)
    (enum_members (module_of g (owner_of g (canonical_ref_for g (reference_symbol row)))))))

-- include_kind (000:1039-1050)
unfoldable pub include_kind : Graph → ℕ → ℕ → ℕ
include_kind g m i =
    elim (flag 3 (statement_bits (statement_of g m i))) [ true ↦ 4 | false ↦ 1 ]
    + elim (module_type (module_of g m) == 2 && not (is_empty (references (statement_of g m i)))) [ true ↦ 8 | false ↦ 0 ]

-- one reference (000:1052-1089): of kind 0 a symbol, of kind 1 a member resolved to nothing, of kind 2 one resolved, of kind 3 one without resolution
unfoldable pub include_plain : Graph → ℕ → List ℕ → Context → Context
include_plain g kind row c = c ▷ retain_forwarding_declarations g (reference_symbol row) ▷ push_symbol_and_check_cjs_bailout g (reference_symbol row) kind

unfoldable pub include_resolved : Graph → ℕ → List ℕ → Context → Context
include_resolved g kind row c =
    c
    ▷ for_each (retain_forwarding_declaration g) (depended_on row)
    ▷ push (symbol_item (reference_symbol row) kind)
    ▷ when (not (reference_flag row == 1)) (check_cjs_bailout g (reference_symbol row))

unfoldable pub include_reference : Graph → ℕ → List ℕ → Context → Context
include_reference g kind row c =
    elim (reference_kind row == 0) [
      | true ↦ include_plain g kind row c
      | false ↦ elim (reference_kind row == 1) [
        | true ↦ c
        | false ↦ elim (reference_kind row == 2) [
          | true ↦ include_resolved g kind row c
          | false ↦ elim (is_inlined_enum_member_access g row) [ true ↦ c | false ↦ include_plain g kind row c ]
        ]
      ]
    ]

-- handle_include_statement (000:1023-1090)
unfoldable pub handle_include_statement : Graph → List ℕ → ℕ → ℕ → Context → Context
handle_include_statement g v m i c =
    when (normal g m) (λ c. elim (has_pair m i c.statements) [
      | true ↦ c
      | false ↦
          set_statement m i c
          ▷ scan_import_records_for_cjs_bailout g v m i
          ▷ for_each (include_reference g (include_kind g m i)) (references (statement_of g m i))
    ]) c

-- drain_work_items (000:184-194) -------------------------------------------------------------------------------------------------------
unfoldable pub handle : Graph → List ℕ → Orders → WorkItem → Context → Context
handle g v order (module_item m) c = handle_include_module g v order m c
handle g v order (symbol_item s x) c = handle_include_symbol g v s x c
handle g v order (statement_item m i) c = handle_include_statement g v m i c

-- it returns: the queue is empty, or an item is popped and it returns from what its handler leaves
pub data Drains (g : Graph) (v : List ℕ) : Context → Context → Type 0 where
  returns : (c : Context) → c.pending ≡ [] → Drains g v c c
  pops : (c d : Context) (i : WorkItem) (is : List WorkItem) (order : Orders) → Reorders order → c.pending ≡ i ∷ is
      → Drains g v (handle g v order i (rest is c)) d → Drains g v c d

-- the same as a function, with a bound on the items popped and the lists' own order: `not_yet` where it has not returned by then
pub data Returned : Type 0 where
  not_yet : Returned
  returned : Context → Returned

unfoldable pub drain_work_items : Graph → List ℕ → ℕ → Context → Returned
drain_work_items g v zero c = elim c.pending [ [] ↦ returned c | i ∷ is ↦ not_yet ]
drain_work_items g v (suc fuel) c = elim c.pending [ [] ↦ returned c | i ∷ is ↦ drain_work_items g v fuel (handle g v listed i (rest is c)) ]
