-- The keep rules K2 to K14 (docs/RULES.md, Keep rules; 000, include_statements.rs; 001, on_demand.rs). K1, which has two premises, is
-- in `worklist`. Each rule has a number of candidates in the graph, in their order, and each candidate gives a fact or nothing.
use Rattle.std.specs.Prelude.{ℕ, zero, suc, ◌+◌, ◌-◌, Bool, true, false, ◌&&◌, ◌||◌, not, List, [], ◌∷◌, ◌++◌, map, eqb, ltb, length, get_or}
use Rattle.determine_side_effects.specs.graph_crate.Check.{Graph}
use Rattle.determine_side_effects.specs.graph_access_crate.Names.{exports, module_type, flags, wrap, wrapper, reexport_count, import_records, dependencies, named_imports, common_js_export_symbols, resolved_exports, enum_members, only, import_record_target, import_record_kind, import_record_bits, export_name, export_symbol, enum_name, enum_member, owner, symbol_name, alias_namespace, alias_name, constant_bits, export_chain, declaring_statements, written_property_statements, statement_bits, statement_import_records, references, reference_kind, reference_symbol, reference_flag, property_count, first_property, depended_on}
use Rattle.determine_side_effects.specs.graph_access_crate.Words.{root_of}
use Rattle.determine_side_effects.specs.facts_crate.declared.Fact.{Fact}
use Rattle.determine_side_effects.specs.facts_crate.declared.Fact.TheVariants.{Module, Statement, Use, CheckedUse, Forward, Bailout}
use Rattle.determine_side_effects.specs.facts_crate.Facts.{module_fact, statement_fact, use_fact, checked_fact, forward_fact, bailout_fact}
use Rattle.determine_side_effects.specs.graph_access_crate.Words.{flag, some, module_of, symbol_of, statement_list, statement_of, normal, option}
use Rattle.determine_side_effects.specs.Effects.{has_effects}
use Rattle.on_demand.specs.Demand.{on_demand, gated, body_of}
use Rattle.linking_metadata.specs.Namespaces.{common_js_of, is_namespace, target_of}
use Rattle.keep_rules.specs.declared.Candidate.{Candidate}
use Rattle.keep_rules.specs.declared.Candidate.TheVariants.{Gives, Nothing}

-- a rule's candidates for one premise: their number, and what each gives
pub record Segment : Type 0 where
  pub rule : ℕ
  pub count : ℕ
  pub candidate : ℕ → Candidate

abbrev pub segment : ℕ → ℕ → (ℕ → Candidate) → Segment
segment r n p = record { rule = r; count = n; candidate = p }

abbrev pub no_segment : Segment
no_segment = segment 0 0 (λ k. Nothing)

-- the fact, if the condition holds
unfoldable pub when : Bool → Fact → Candidate
when b f = elim b [ true ↦ Gives f | false ↦ Nothing ]

-- K2 to K6, from module m

-- the runtime without effects: its statements are kept only through references (000:559)
unfoldable pub quiet_runtime : Graph → List ℕ → ℕ → Bool
quiet_runtime g v m = eqb m g.header.runtime && not (has_effects v m)

unfoldable pub has_eval : Graph → ℕ → Bool
has_eval g m = flag 0 (flags (module_of g m))

-- the bit that counts as a statement's effect (000:609-615)
unfoldable pub effect_bit : Graph → ℕ → ℕ
effect_bit g m = elim (flag 1 (flags (module_of g m)) && option g 2) [ true ↦ 1 | false ↦ 0 ]

-- `swept_shaken` (000:601-623): an effect that is not gated, or a declaration beside eval
unfoldable pub swept_shaken : Graph → List ℕ → ℕ → ℕ → Bool
swept_shaken g v m i =
    (flag (effect_bit g m) (statement_bits (statement_of g m i)) && not (on_demand g v m && gated g m i))
    || (has_eval g m && flag 4 (statement_bits (statement_of g m i)))

-- `swept_whole` (000:628-643)
unfoldable pub swept_whole : Graph → ℕ → ℕ → Bool
swept_whole g m i = not (flag 2 (statement_bits (statement_of g m i))) || flag 0 (statement_bits (statement_of g m i))

-- K2; statement 0 is never swept
unfoldable pub swept : Graph → List ℕ → ℕ → ℕ → Bool
swept g v m i =
    not (eqb i 0) && elim (option g 0 && not (eqb (get_or v m 0) 4)) [ true ↦ swept_shaken g v m i | false ↦ swept_whole g m i ]

unfoldable pub sweep_candidate : Graph → List ℕ → ℕ → ℕ → Candidate
sweep_candidate g v m i = when (swept g v m i) (statement_fact m i)

-- K3, `dependency_candidate` (000:647-665)
unfoldable pub dependency : Graph → ℕ → ℕ → ℕ
dependency g m k = only (get_or (dependencies (module_of g m)) k [])

unfoldable pub dependency_candidate : Graph → List ℕ → ℕ → ℕ → Candidate
dependency_candidate g v m k =
    when (normal g (dependency g m k) && (not (option g 0) || has_effects v (dependency g m k))) (module_fact (dependency g m k))

-- K4: eval in Js or Jsx keeps every named import (000:573-578)
unfoldable pub eval_candidates : Graph → ℕ → ℕ
eval_candidates g m =
    elim (has_eval g m && ltb (module_type (module_of g m)) 2) [ true ↦ length (named_imports (module_of g m)) | false ↦ 0 ]

unfoldable pub eval_candidate : Graph → ℕ → ℕ → Candidate
eval_candidate g m k = Gives (checked_fact (only (get_or (named_imports (module_of g m)) k [])) 1)

-- K5 (000:580-582)
unfoldable pub export_symbol_candidate : Graph → ℕ → ℕ → Candidate
export_symbol_candidate g m k = Gives (checked_fact (only (get_or (common_js_export_symbols (module_of g m)) k [])) 1)

-- K6: dev mode keeps the namespace statement of an Esm module other than the runtime (000:585-591)
unfoldable pub dev_namespace : Graph → ℕ → Bool
dev_namespace g m = option g 4 && (not (eqb m g.header.runtime) && eqb (exports (module_of g m)) 0)

unfoldable pub dev_candidate : Graph → ℕ → ℕ → Candidate
dev_candidate g m k = when (dev_namespace g m) (statement_fact m 0)

-- K2 to K6 in the order of 000:564-591
unfoldable pub module_segments : Graph → List ℕ → ℕ → List Segment
module_segments g v m =
    segment 2 (length (statement_list g m)) (sweep_candidate g v m)
    ∷ segment 3 (length (dependencies (module_of g m))) (dependency_candidate g v m)
    ∷ segment 4 (eval_candidates g m) (eval_candidate g m)
    ∷ segment 5 (length (common_js_export_symbols (module_of g m))) (export_symbol_candidate g m)
    ∷ segment 6 1 (dev_candidate g m)
    ∷ []

-- K7 and K8, from statement (m, i)

-- import record k of the statement, as one of its module
unfoldable pub import_record_of : Graph → ℕ → ℕ → ℕ → List ℕ
import_record_of g m i k = get_or (import_records (module_of g m)) (only (get_or (statement_import_records (statement_of g m i)) k [])) []

-- K7, `import_record_candidate` (000:1097-1140)
unfoldable pub bails_out : Graph → List ℕ → ℕ → List ℕ → Bool
bails_out g v m row =
    elim (eqb (import_record_target row) 0) [
      | true ↦ false
      | false ↦
          normal g (import_record_target row - 1) && (eqb (exports (module_of g (import_record_target row - 1))) 1 && (not (eqb (import_record_kind row) 0)
          && (not (flag 1 (import_record_bits row) && not (has_effects v (import_record_target row - 1)))
          && (not (flag 2 (flags (module_of g m))) || ltb 1 (reexport_count (module_of g m))))))
    ]

unfoldable pub import_record_candidate : Graph → List ℕ → ℕ → ℕ → ℕ → Candidate
import_record_candidate g v m i k = when (bails_out g v m (import_record_of g m i k)) (bailout_fact (import_record_target (import_record_of g m i k) - 1))

-- the reason of the uses that a statement's references give (000:1039-1050): 4 for ReExportDynamicExports, else 1; 8 more in Json
unfoldable pub reason_of : Graph → ℕ → ℕ → ℕ
reason_of g m i =
    elim (flag 3 (statement_bits (statement_of g m i))) [ true ↦ 4 | false ↦ 1 ] + elim (eqb (module_type (module_of g m)) 2) [ true ↦ 8 | false ↦ 0 ]

-- `is_inlined_enum_member_access` (000:1153-1169), of a reference of kind 3
unfoldable pub inlined : Graph → List ℕ → Bool
inlined g row =
    normal g (owner (symbol_of g (root_of g.symbols (reference_symbol row)))) && (eqb (reference_flag row) 0 && (eqb (property_count row) 1
    && some (λ e. eqb (enum_name e) (symbol_name (symbol_of g (root_of g.symbols (reference_symbol row)))) && eqb (enum_member e) (first_property row))
    (enum_members (module_of g (owner (symbol_of g (root_of g.symbols (reference_symbol row))))))))

-- the forwards of a symbol, itself and its chain (`forward_candidate`, 000:521-528): how many, and each
unfoldable pub forwards : Graph → ℕ → ℕ
forwards g s = 1 + length (export_chain (symbol_of g s))

unfoldable pub forward_candidate : Graph → ℕ → ℕ → Candidate
forward_candidate g s k = elim (eqb k 0) [ true ↦ Gives (forward_fact s) | false ↦ Gives (forward_fact (only (get_or (export_chain (symbol_of g s)) (k - 1) []))) ]

-- K8, a plain reference to symbol s: its forwards, then the checked use (000:1085-1087)
unfoldable pub plain_candidate : Graph → ℕ → ℕ → ℕ → Candidate
plain_candidate g s x k = elim (ltb k (forwards g s)) [ true ↦ forward_candidate g s k | false ↦ Gives (checked_fact s x) ]

-- K8, a resolved member: forwards of what it depends on, without their chains, then the use, unchecked if it is a CommonJS target
-- (000:1061-1072)
unfoldable pub resolved_candidate : List ℕ → ℕ → ℕ → Candidate
resolved_candidate row x k =
    elim (ltb k (length (depended_on row))) [
      | true ↦ Gives (forward_fact (get_or (depended_on row) k 0))
      | false ↦ elim (eqb (reference_flag row) 1) [ true ↦ Gives (use_fact (reference_symbol row) x) | false ↦ Gives (checked_fact (reference_symbol row) x) ]
    ]

-- K8 by the kind of the reference (000:1052-1089): how many candidates it has, and what each gives
unfoldable pub reference_candidates : Graph → List ℕ → ℕ
reference_candidates g row =
    elim (eqb (reference_kind row) 0) [
      | true ↦ forwards g (reference_symbol row) + 1
      | false ↦ elim (eqb (reference_kind row) 1) [
        | true ↦ 0
        | false ↦ elim (eqb (reference_kind row) 2) [
          | true ↦ length (depended_on row) + 1
          | false ↦ elim (inlined g row) [ true ↦ 0 | false ↦ forwards g (reference_symbol row) + 1 ]
        ]
      ]
    ]

unfoldable pub reference_candidate : Graph → ℕ → List ℕ → ℕ → Candidate
reference_candidate g x row k =
    elim (eqb (reference_kind row) 2) [ true ↦ resolved_candidate row x k | false ↦ plain_candidate g (reference_symbol row) x k ]

unfoldable pub reference_segment : Graph → ℕ → List ℕ → Segment
reference_segment g x row = segment 8 (reference_candidates g row) (reference_candidate g x row)

-- K7, then K8 for each reference in turn (000:1038-1089)
unfoldable pub statement_segments : Graph → List ℕ → ℕ → ℕ → List Segment
statement_segments g v m i =
    segment 7 (length (statement_import_records (statement_of g m i))) (import_record_candidate g v m i)
    ∷ map (reference_segment g (reason_of g m i)) (references (statement_of g m i))

-- K9, from checked use (s, x): the use, then `checked_candidate` (000:220, 234-256)

-- the bailout of a module that is given by 1 more than its index; nothing for 0
unfoldable pub bailout_candidate : ℕ → Candidate
bailout_candidate n = elim (eqb n 0) [ true ↦ Nothing | false ↦ Gives (bailout_fact (n - 1)) ]

-- a root that is an alias of "default" bails out the CommonJS module of its alias namespace
unfoldable pub default_alias : Graph → ℕ → Candidate
default_alias g root =
    elim (eqb (alias_namespace (symbol_of g root)) 0) [
      | true ↦ Nothing
      | false ↦ elim (eqb (alias_name (symbol_of g root)) 0) [ true ↦ bailout_candidate (common_js_of g (alias_namespace (symbol_of g root) - 1)) | false ↦ Nothing ]
    ]

unfoldable pub checked_candidate : Graph → ℕ → ℕ → ℕ → Candidate
checked_candidate g s x k =
    elim (eqb k 0) [
      | true ↦ Gives (use_fact s x)
      | false ↦ elim (eqb k 1) [
        | true ↦ bailout_candidate (common_js_of g (root_of g.symbols s))
        | false ↦ elim (eqb k 2) [
          | true ↦ when (is_namespace g (root_of g.symbols s)) (bailout_fact (owner (symbol_of g (root_of g.symbols s))))
          | false ↦ default_alias g (root_of g.symbols s)
        ]
      ]
    ]

-- K10 to K14, from use (s, x)

-- `is_bypassed_inlined_constant` (000:749-762), by the root: known, not CommonJS, no EntryExport, and not smart or safe
unfoldable pub bypassed : Graph → ℕ → ℕ → Bool
bypassed g s x =
    flag 0 (constant_bits (symbol_of g (root_of g.symbols s))) && (not (flag 2 (constant_bits (symbol_of g (root_of g.symbols s))))
    && (not (flag 1 x) && (not (option g 1) || flag 1 (constant_bits (symbol_of g (root_of g.symbols s))))))

-- K10, `demand_candidate` (000:770-786), by the root: 1 more than the module whose body is demanded, 0 for none
unfoldable pub demanded : Graph → List ℕ → ℕ → ℕ → ℕ
demanded g v s x = elim (flag 4 x) [ true ↦ 0 | false ↦ body_of g v (root_of g.symbols s) ]

unfoldable pub demand_candidates : Graph → ℕ → ℕ
demand_candidates g body = elim (eqb body 0) [ true ↦ 0 | false ↦ length (statement_list g (body - 1)) ]

unfoldable pub demand_candidate : Graph → ℕ → ℕ → Candidate
demand_candidate g body i = when (gated g (body - 1) i) (statement_fact (body - 1) i)

-- K11, `alias_candidate` (000:791-816): 1 more than the symbol of the rows' export of this name, 0 for none
unfoldable pub export_of : ℕ → List (List ℕ) → ℕ
export_of name [] = 0
export_of name (row ∷ rows) = elim (eqb (export_name row) name) [ true ↦ export_symbol row + 1 | false ↦ export_of name rows ]

-- from the resolved exports of the module given by 1 more than its index, if it is a normal one; never "default"
unfoldable pub export_candidate : Graph → ℕ → ℕ → Candidate
export_candidate g name n =
    elim (eqb n 0) [
      | true ↦ Nothing
      | false ↦ elim (normal g (n - 1)) [
        | true ↦ elim (eqb name 0) [
          | true ↦ Nothing
          | false ↦ elim (eqb (export_of name (resolved_exports (module_of g (n - 1)))) 0) [
            | true ↦ Nothing
            | false ↦ Gives (use_fact (export_of name (resolved_exports (module_of g (n - 1))) - 1) 1)
          ]
        ]
        | false ↦ Nothing
      ]
    ]

unfoldable pub alias_candidate : Graph → ℕ → ℕ → Candidate
alias_candidate g root k =
    elim (eqb (alias_namespace (symbol_of g root)) 0) [
      | true ↦ Nothing
      | false ↦ export_candidate g (alias_name (symbol_of g root)) (common_js_of g (alias_namespace (symbol_of g root) - 1))
    ]

-- K12, `wrapper_candidate` (000:955-971), by the target: its owner is normal, wrapped Esm, with a wrapper other than the target
unfoldable pub needs_wrapper : Graph → ℕ → Bool
needs_wrapper g t =
    normal g (owner (symbol_of g t)) && (eqb (wrap (module_of g (owner (symbol_of g t)))) 2 && (not (eqb (wrapper (module_of g (owner (symbol_of g t)))) 0)
    && not (eqb (wrapper (module_of g (owner (symbol_of g t)))) (t + 1))))

unfoldable pub wrapper_candidates : Graph → ℕ → ℕ → ℕ
wrapper_candidates g s t = elim (needs_wrapper g t) [ true ↦ 1 + forwards g s | false ↦ 0 ]

unfoldable pub wrapper_candidate : Graph → ℕ → ℕ → ℕ → Candidate
wrapper_candidate g s t k =
    elim (eqb k 0) [ true ↦ Gives (use_fact (wrapper (module_of g (owner (symbol_of g t))) - 1) 1) | false ↦ forward_candidate g s (k - 1) ]

-- K13 (000:733-736, 947), by the target: its declaring statements, then its owner, except for the owner's namespace with bit 16
unfoldable pub declaration_candidates : Graph → ℕ → ℕ
declaration_candidates g t = elim (normal g (owner (symbol_of g t))) [ true ↦ length (declaring_statements (symbol_of g t)) + 1 | false ↦ 0 ]

unfoldable pub declaration_candidate : Graph → ℕ → ℕ → ℕ → Candidate
declaration_candidate g t x k =
    elim (ltb k (length (declaring_statements (symbol_of g t)))) [
      | true ↦ Gives (statement_fact (owner (symbol_of g t)) (only (get_or (declaring_statements (symbol_of g t)) k [])))
      | false ↦ when (not (is_namespace g t && flag 4 x)) (module_fact (owner (symbol_of g t)))
    ]

-- K14, `write_candidate` (000:994-1010), by the symbol itself
unfoldable pub write_candidates : Graph → ℕ → ℕ
write_candidates g s =
    elim (option g 3 && normal g (owner (symbol_of g s))) [ true ↦ length (written_property_statements (symbol_of g s)) | false ↦ 0 ]

unfoldable pub write_candidate : Graph → ℕ → ℕ → Candidate
write_candidate g s k = Gives (statement_fact (owner (symbol_of g s)) (only (get_or (written_property_statements (symbol_of g s)) k [])))

-- K10 to K14 in the order of the rules; the symbol itself, its root and its target decide different ones, as said at each
unfoldable pub use_segments : Graph → List ℕ → ℕ → ℕ → List Segment
use_segments g v s x =
    segment 10 (demand_candidates g (demanded g v s x)) (demand_candidate g (demanded g v s x))
    ∷ segment 11 1 (alias_candidate g (root_of g.symbols s))
    ∷ segment 12 (wrapper_candidates g s (target_of g s)) (wrapper_candidate g s (target_of g s))
    ∷ segment 13 (declaration_candidates g (target_of g s)) (declaration_candidate g (target_of g s) x)
    ∷ segment 14 (write_candidates g s) (write_candidate g s)
    ∷ []

-- K2 to K14: the segments of a fact, in the record's order
unfoldable pub segments_of : Graph → List ℕ → Fact → List Segment
segments_of g v (Module m) = elim (quiet_runtime g v m.0) [ true ↦ [] | false ↦ module_segments g v m.0 ]
segments_of g v (Statement m i) = statement_segments g v m.0 i.0
segments_of g v (CheckedUse s x) = segment 9 4 (checked_candidate g s.0 x.bits) ∷ []
segments_of g v (Use s x) = elim (bypassed g s.0 x.bits) [ true ↦ [] | false ↦ use_segments g v s.0 x.bits ]
segments_of g v (Forward s) = []
segments_of g v (Bailout m) = []

-- a consequence: the rule and the fact that it gives
pub record Given : Type 0 where
  pub rule : ℕ
  pub fact : Fact

-- what n candidates from candidate i on give
unfoldable pub picked : ℕ → (ℕ → Candidate) → ℕ → ℕ → List Given
picked r pick i zero = []
picked r pick i (suc n) = elim (pick i) [ Gives f ↦ record { rule = r; fact = f } ∷ picked r pick (i + 1) n | Nothing ↦ picked r pick (i + 1) n ]

-- what segments give, the first one from candidate k on
unfoldable pub given_by : List Segment → ℕ → List Given
given_by [] k = []
given_by (s ∷ ss) k = picked s.rule s.candidate k (s.count - k) ++ given_by ss 0

-- K2 to K14: all that follows from a fact, in the record's order
unfoldable pub gives : Graph → List ℕ → Fact → List Given
gives g v f = given_by (segments_of g v f) 0
