-- Bodies that are included on demand (001, on_demand.rs).
use Rattle.std.specs.Prelude.{ℕ, zero, suc, ◌+◌, Bool, true, false, ◌&&◌, ◌||◌, not, List, eqb, ltb, length, get_or}
use Rattle.determine_side_effects.specs.graph_crate.Check.{Graph}
use Rattle.determine_side_effects.specs.graph_access_crate.Names.{exports, flags, namespace, own_exports, only, entry_module, entry_kind, statement_bits, statement_import_records, references}
use Rattle.determine_side_effects.specs.graph_access_crate.Words.{root_of}
use Rattle.determine_side_effects.specs.graph_access_crate.Words.{flag, tabulate, some, module_of, statement_list, statement_of, normal, option}

-- module m is the module of a user-defined entry, kind 0 or 1 (001:128-136)
unfoldable pub user_entry : Graph → ℕ → Bool
user_entry g m = some (λ e. eqb (entry_module e) m && ltb (entry_kind e) 2) g.entries

-- `side_effects_included_on_demand` (001:47-55): UserDefined(false), Esm, without eval, no user-defined entry
unfoldable pub on_demand : Graph → List ℕ → ℕ → Bool
on_demand g v m =
    eqb (get_or v m 0) 2 && (eqb (exports (module_of g m)) 0 && (not (flag 0 (flags (module_of g m))) && not (user_entry g m)))

-- `is_gated_side_effect_stmt` (001:116-120): a side effect, a reference of any kind, no import record; statement 0 never is
unfoldable pub gated : Graph → ℕ → ℕ → Bool
gated g m i =
    not (eqb i 0) && (flag 0 (statement_bits (statement_of g m i))
    && (ltb 0 (length (references (statement_of g m i))) && eqb (length (statement_import_records (statement_of g m i))) 0))

-- module m has a gated statement
unfoldable pub has_gated : Graph → ℕ → Bool
has_gated g m = some (gated g m) (tabulate (λ i. i) 0 (length (statement_list g m)))

-- module m has a body that is included on demand, and a statement that waits for it
unfoldable pub has_body : Graph → List ℕ → ℕ → Bool
has_body g v m = normal g m && (on_demand g v m && has_gated g m)

-- symbol s is a key of the body of module m: a root of its own exports, or its namespace as it stands (001:93-98)
unfoldable pub claims : Graph → List ℕ → ℕ → ℕ → Bool
claims g v m s =
    has_body g v m && (some (λ row. eqb (root_of g.symbols (only row)) s) (own_exports (module_of g m)) || eqb (namespace (module_of g m)) (s + 1))

-- 1 more than the highest of the first k modules that claims symbol s; 0 where none does
unfoldable pub claimed : Graph → List ℕ → ℕ → ℕ → ℕ
claimed g v s zero = 0
claimed g v s (suc k) = elim (claims g v k s) [ true ↦ suc k | false ↦ claimed g v s k ]

-- `compute_body_demand_keys` (001:72-108): 1 more than the module whose body the symbol is a key of; none without tree shaking
unfoldable pub body_of : Graph → List ℕ → ℕ → ℕ
body_of g v s = elim (option g 0) [ true ↦ claimed g v s g.header.modules | false ↦ 0 ]
