-- The keep rules a second time, as a relation: one case for each way in which a rule (docs/RULES.md) gives a fact, each with
-- its place in the Rust (000, include_statements.rs; 001, on_demand.rs). Nothing is said of an order. `gives` of `keep_rules` lists exactly
-- this for every fact but an external module, which is never kept (`GivesExactly` in Same.antt). Where the Rust asks whether the module of a statement
-- is normal (000:508, 000:1028) nothing is asked here: in an accepted graph an external module has no statement, and its symbols are declared by none.
use Rattle.std.specs.Prelude.{ℕ, suc, ◌+◌, ◌<◌, ◌≤◌, ◌≡◌, Bool, true, false, List, [], length, get_or}
use Rattle.determine_side_effects.specs.graph_crate.Check.{Graph}
use Rattle.determine_side_effects.specs.graph_access_crate.Names.{exports, module_type, flags, wrap, wrapper, namespace, reexport_count, import_records, dependencies, named_imports, common_js_export_symbols, resolved_exports, enum_members, only, import_record_target, import_record_kind, import_record_bits, enum_name, enum_member, owner, symbol_name, alias_namespace, alias_name, constant_bits, export_chain, declaring_statements, written_property_statements, statement_bits, statement_import_records, references, reference_kind, reference_symbol, reference_flag, property_count, first_property, depended_on}
use Rattle.determine_side_effects.specs.graph_access_crate.Words.{root_of, flag, module_of, symbol_of, statement_list, statement_of, normal, option}
use Rattle.determine_side_effects.specs.facts_crate.declared.Fact.{Fact}
use Rattle.determine_side_effects.specs.facts_crate.Facts.{module_fact, statement_fact, use_fact, checked_fact, forward_fact, bailout_fact}
use Rattle.determine_side_effects.specs.Effects.{has_effects}
use Rattle.on_demand.specs.Demand.{on_demand, gated, body_of}
use Rattle.linking_metadata.specs.Namespaces.{common_js_of, target_of}
use Rattle.keep_rules.specs.Rules.{export_of}

-- K2 to K6 hold for every normal module (000:546) but a runtime without effects (000:559).
pub record Sweeps (g : Graph) (v : List ℕ) (m : ℕ) : Type 0 where
  pub is_normal : normal g m ≡ true
  pub no_quiet_runtime : m ≡ g.header.runtime → has_effects v m ≡ true

-- tree shaking is on and the module is not NoTreeshake (000:564)
pub record Shaken (g : Graph) (v : List ℕ) (m : ℕ) : Type 0 where
  pub on : option g 0 ≡ true
  pub may : get_or v m 0 ≡ 4 → ⊥

-- a statement of the module other than the namespace's
pub record Body (g : Graph) (m i : ℕ) : Type 0 where
  pub later : 1 ≤ i
  pub listed : i < length (statement_list g m)

abbrev pub bits_at : Graph → ℕ → ℕ → ℕ
bits_at g m i = statement_bits (statement_of g m i)

-- flag 1, SafelyTreeshakeCommonjs, with option 2: UnknownSideEffect is the effect that counts; else bit 0 (000:609-615)
pub record ByUnknown (g : Graph) (m : ℕ) : Type 0 where
  pub safely : flag 1 (flags (module_of g m)) ≡ true
  pub shakes : option g 2 ≡ true

pub data Effect (g : Graph) (m i : ℕ) : Type 0 where
  unknown : ByUnknown g m → flag 1 (bits_at g m i) ≡ true → Effect g m i
  plain : (ByUnknown g m → ⊥) → flag 0 (bits_at g m i) ≡ true → Effect g m i

-- an effect that waits for its body to be demanded (001:47-55, 116-120)
pub record Waits (g : Graph) (v : List ℕ) (m i : ℕ) : Type 0 where
  pub on_demand_holds : on_demand g v m ≡ true
  pub is_gated : gated g m i ≡ true

abbrev pub Eval : Graph → ℕ → Type 0
Eval g m = flag 0 (flags (module_of g m)) ≡ true

-- K7: the import record is resolved to a normal CommonJS module, not by `import`, not by a pure dynamic import of a module without effects; a
-- CommonJS re-export has to be one of several (000:1097-1140)
pub record BailsOut (g : Graph) (v : List ℕ) (m : ℕ) (row : List ℕ) (t : ℕ) : Type 0 where
  pub resolved : import_record_target row ≡ suc t
  pub is_normal : normal g t ≡ true
  pub common_js : exports (module_of g t) ≡ 1
  pub no_import : import_record_kind row ≡ 0 → ⊥
  pub wanted : flag 1 (import_record_bits row) ≡ true → has_effects v t ≡ true
  pub one_of_several : flag 2 (flags (module_of g m)) ≡ true → 2 ≤ reexport_count (module_of g m)

-- import record k of statement (m, i), as a row of its module's
abbrev pub record_at : Graph → ℕ → ℕ → ℕ → List ℕ
record_at g m i k = get_or (import_records (module_of g m)) (only (get_or (statement_import_records (statement_of g m i)) k [])) []

-- reference k of statement (m, i)
abbrev pub reference_at : Graph → ℕ → ℕ → ℕ → List ℕ
reference_at g m i k = get_or (references (statement_of g m i)) k []

-- the reason that a statement's references bring (000:1039-1050): ReExportDynamicExports or Normal, and in Json the self reference
pub data Reasoned (g : Graph) (m i : ℕ) : ℕ → Type 0 where
  normal_use : flag 3 (bits_at g m i) ≡ false → (module_type (module_of g m) ≡ 2 → ⊥) → Reasoned g m i 1
  reexport : flag 3 (bits_at g m i) ≡ true → (module_type (module_of g m) ≡ 2 → ⊥) → Reasoned g m i 4
  json_use : flag 3 (bits_at g m i) ≡ false → module_type (module_of g m) ≡ 2 → Reasoned g m i 9
  json_reexport : flag 3 (bits_at g m i) ≡ true → module_type (module_of g m) ≡ 2 → Reasoned g m i 12

abbrev pub root_symbol : Graph → ℕ → ℕ
root_symbol g s = root_of g.symbols s

-- a read of one property of a normal module's enum whose member is known: its value is written in (000:1080-1084, 1153-1169)
pub record Inlined (g : Graph) (row : List ℕ) : Type 0 where
  pub is_normal : normal g (owner (symbol_of g (root_symbol g (reference_symbol row)))) ≡ true
  pub is_read : reference_flag row ≡ 0
  pub one_property : property_count row ≡ 1
  pub member : ℕ
  pub listed : member < length (enum_members (module_of g (owner (symbol_of g (root_symbol g (reference_symbol row))))))
  pub of_enum : enum_name (get_or (enum_members (module_of g (owner (symbol_of g (root_symbol g (reference_symbol row)))))) member [])
      ≡ symbol_name (symbol_of g (root_symbol g (reference_symbol row)))
  pub is_member : enum_member (get_or (enum_members (module_of g (owner (symbol_of g (root_symbol g (reference_symbol row)))))) member []) ≡ first_property row

-- a plain reference: kind 0, or kind 3, the last one, that is not inlined
pub data Plain (g : Graph) (row : List ℕ) : Type 0 where
  symbol : reference_kind row ≡ 0 → Plain g row
  object : 3 ≤ reference_kind row → (Inlined g row → ⊥) → Plain g row

-- s itself, or a symbol of its export chain (000:521-528)
pub data Along (g : Graph) (s : ℕ) : ℕ → Type 0 where
  itself : Along g s s
  chained : (k : ℕ) → k < length (export_chain (symbol_of g s)) → Along g s (only (get_or (export_chain (symbol_of g s)) k []))

-- K10 to K14 hold for every use that is not bypassed: its root is a known constant, not of CommonJS, not exported by an entry, and inlined by
-- the options (000:695, 749-762)
pub record Bypassed (g : Graph) (s x : ℕ) : Type 0 where
  pub known : flag 0 (constant_bits (symbol_of g (root_symbol g s))) ≡ true
  pub no_common_js : flag 2 (constant_bits (symbol_of g (root_symbol g s))) ≡ false
  pub no_entry : flag 1 x ≡ false
  pub inlines : option g 1 ≡ true → flag 1 (constant_bits (symbol_of g (root_symbol g s))) ≡ true

abbrev pub Follows : Graph → ℕ → ℕ → Type 0
Follows g s x = Bypassed g s x → ⊥

-- the symbol is the namespace of its owner
abbrev pub OwnersNamespace : Graph → ℕ → Type 0
OwnersNamespace g s = namespace (module_of g (owner (symbol_of g s))) ≡ suc s

-- K12: the target's owner is normal and wrapped Esm, and w is its wrapper, another symbol than the target (000:955-971)
pub record Wrapped (g : Graph) (t w : ℕ) : Type 0 where
  pub is_normal : normal g (owner (symbol_of g t)) ≡ true
  pub is_esm : wrap (module_of g (owner (symbol_of g t))) ≡ 2
  pub is_wrapper : wrapper (module_of g (owner (symbol_of g t))) ≡ suc w
  pub another : w ≡ t → ⊥

pub data Gives (g : Graph) (v : List ℕ) : ℕ → Fact → Fact → Type 0 where
  -- K2, a module that is shaken (000:601-623): an effect that does not wait; a declaration beside eval
  K2_effect : (m i : ℕ) → Sweeps g v m → Shaken g v m → Body g m i → Effect g m i → (Waits g v m i → ⊥) → Gives g v 2 (module_fact m) (statement_fact m i)
  K2_eval : (m i : ℕ) → Sweeps g v m → Shaken g v m → Body g m i → Eval g m → flag 4 (bits_at g m i) ≡ true → Gives g v 2 (module_fact m) (statement_fact m i)
  -- K2, a module that is not (000:628-643): all but those that only force keeps
  K2_unforced : (m i : ℕ) → Sweeps g v m → (Shaken g v m → ⊥) → Body g m i → flag 2 (bits_at g m i) ≡ false → Gives g v 2 (module_fact m) (statement_fact m i)
  K2_forced : (m i : ℕ) → Sweeps g v m → (Shaken g v m → ⊥) → Body g m i → flag 0 (bits_at g m i) ≡ true → Gives g v 2 (module_fact m) (statement_fact m i)
  -- K3 (000:647-665): a normal dependency with effects, or any without tree shaking
  K3_effects : (m k d : ℕ) → Sweeps g v m → k < length (dependencies (module_of g m)) → only (get_or (dependencies (module_of g m)) k []) ≡ d
      → normal g d ≡ true → has_effects v d ≡ true → Gives g v 3 (module_fact m) (module_fact d)
  K3_whole : (m k d : ℕ) → Sweeps g v m → k < length (dependencies (module_of g m)) → only (get_or (dependencies (module_of g m)) k []) ≡ d
      → normal g d ≡ true → option g 0 ≡ false → Gives g v 3 (module_fact m) (module_fact d)
  -- K4 (000:573-578): eval in Js or Jsx
  K4 : (m k : ℕ) → Sweeps g v m → Eval g m → module_type (module_of g m) ≤ 1 → k < length (named_imports (module_of g m))
      → Gives g v 4 (module_fact m) (checked_fact (only (get_or (named_imports (module_of g m)) k [])) 1)
  -- K5 (000:580-582)
  K5 : (m k : ℕ) → Sweeps g v m → k < length (common_js_export_symbols (module_of g m))
      → Gives g v 5 (module_fact m) (checked_fact (only (get_or (common_js_export_symbols (module_of g m)) k [])) 1)
  -- K6 (000:585-591): dev mode, an Esm module other than the runtime
  K6 : (m : ℕ) → Sweeps g v m → option g 4 ≡ true → (m ≡ g.header.runtime → ⊥) → exports (module_of g m) ≡ 0
      → Gives g v 6 (module_fact m) (statement_fact m 0)
  -- K7 (000:1097-1140)
  K7 : (m i k t : ℕ) → k < length (statement_import_records (statement_of g m i)) → BailsOut g v m (record_at g m i k) t
      → Gives g v 7 (statement_fact m i) (bailout_fact t)
  -- K8, a plain reference (000:1085-1087): the symbol and its chain as forwards, a checked use
  K8_forward : (m i k f : ℕ) → k < length (references (statement_of g m i)) → Plain g (reference_at g m i k)
      → Along g (reference_symbol (reference_at g m i k)) f → Gives g v 8 (statement_fact m i) (forward_fact f)
  K8_use : (m i k x : ℕ) → k < length (references (statement_of g m i)) → Plain g (reference_at g m i k) → Reasoned g m i x
      → Gives g v 8 (statement_fact m i) (checked_fact (reference_symbol (reference_at g m i k)) x)
  -- K8, a resolved member (000:1061-1072): what it depends on as forwards, without chains; a use, unchecked for a CommonJS target
  K8_depended : (m i k j : ℕ) → k < length (references (statement_of g m i)) → reference_kind (reference_at g m i k) ≡ 2
      → j < length (depended_on (reference_at g m i k)) → Gives g v 8 (statement_fact m i) (forward_fact (get_or (depended_on (reference_at g m i k)) j 0))
  K8_target : (m i k x : ℕ) → k < length (references (statement_of g m i)) → reference_kind (reference_at g m i k) ≡ 2
      → reference_flag (reference_at g m i k) ≡ 1 → Reasoned g m i x → Gives g v 8 (statement_fact m i) (use_fact (reference_symbol (reference_at g m i k)) x)
  K8_member : (m i k x : ℕ) → k < length (references (statement_of g m i)) → reference_kind (reference_at g m i k) ≡ 2
      → (reference_flag (reference_at g m i k) ≡ 1 → ⊥) → Reasoned g m i x
      → Gives g v 8 (statement_fact m i) (checked_fact (reference_symbol (reference_at g m i k)) x)
  -- K9 (000:220): the use
  K9_use : (s x : ℕ) → Gives g v 9 (checked_fact s x) (use_fact s x)
  -- K9 (000:234-238): the root is a CommonJS namespace of its owner's
  K9_namespace : (s x n : ℕ) → common_js_of g (root_symbol g s) ≡ suc n → Gives g v 9 (checked_fact s x) (bailout_fact n)
  -- K9 (000:240-242): the root is the namespace of its owner
  K9_own : (s x : ℕ) → OwnersNamespace g (root_symbol g s) → Gives g v 9 (checked_fact s x) (bailout_fact (owner (symbol_of g (root_symbol g s))))
  -- K9 (000:247-256): the root is an alias of "default" of such a namespace a
  K9_default : (s x a n : ℕ) → alias_namespace (symbol_of g (root_symbol g s)) ≡ suc a → alias_name (symbol_of g (root_symbol g s)) ≡ 0
      → common_js_of g a ≡ suc n → Gives g v 9 (checked_fact s x) (bailout_fact n)
  -- K10 (000:704, 770-786; 001:72-108): without SimulatedFacadeChunk, the gated statements of the body whose key the root is
  K10 : (s x b i : ℕ) → Follows g s x → flag 4 x ≡ false → body_of g v (root_symbol g s) ≡ suc b → i < length (statement_list g b)
      → gated g b i ≡ true → Gives g v 10 (use_fact s x) (statement_fact b i)
  -- K11 (000:791-816): the CommonJS module n's resolved export e that the root is an alias of, not "default"
  K11 : (s x a n e : ℕ) → Follows g s x → alias_namespace (symbol_of g (root_symbol g s)) ≡ suc a → common_js_of g a ≡ suc n → normal g n ≡ true
      → (alias_name (symbol_of g (root_symbol g s)) ≡ 0 → ⊥) → export_of (alias_name (symbol_of g (root_symbol g s))) (resolved_exports (module_of g n)) ≡ suc e
      → Gives g v 11 (use_fact s x) (use_fact e 1)
  -- K12 (000:731, 955-971): the wrapper; the symbol and its chain as forwards
  K12_use : (s x w : ℕ) → Follows g s x → Wrapped g (target_of g s) w → Gives g v 12 (use_fact s x) (use_fact w 1)
  K12_forward : (s x w f : ℕ) → Follows g s x → Wrapped g (target_of g s) w → Along g s f → Gives g v 12 (use_fact s x) (forward_fact f)
  -- K13 (000:733-736, 947): the target's declaring statements; its owner, except for the owner's namespace with SimulatedFacadeChunk
  K13_statement : (s x k : ℕ) → Follows g s x → normal g (owner (symbol_of g (target_of g s))) ≡ true
      → k < length (declaring_statements (symbol_of g (target_of g s)))
      → Gives g v 13 (use_fact s x) (statement_fact (owner (symbol_of g (target_of g s))) (only (get_or (declaring_statements (symbol_of g (target_of g s))) k [])))
  K13_module : (s x : ℕ) → Follows g s x → normal g (owner (symbol_of g (target_of g s))) ≡ true
      → (OwnersNamespace g (target_of g s) → flag 4 x ≡ false) → Gives g v 13 (use_fact s x) (module_fact (owner (symbol_of g (target_of g s))))
  -- K14 (000:994-1010): property writes False, statements that write a property of the symbol itself
  K14 : (s x k : ℕ) → Follows g s x → option g 3 ≡ true → normal g (owner (symbol_of g s)) ≡ true
      → k < length (written_property_statements (symbol_of g s))
      → Gives g v 14 (use_fact s x) (statement_fact (owner (symbol_of g s)) (only (get_or (written_property_statements (symbol_of g s)) k [])))

-- K1 (000:530-536, 553-557): a module and a forward that it owns give the statements that declare the forward
pub data Joins (g : Graph) : Fact → Fact → Fact → Type 0 where
  K1 : (m s k : ℕ) → owner (symbol_of g s) ≡ m → k < length (declaring_statements (symbol_of g s))
      → Joins g (module_fact m) (forward_fact s) (statement_fact m (only (get_or (declaring_statements (symbol_of g s)) k [])))
