-- on_demand.rs (001), function by function.
use Rattle.std.specs.Prelude.{ℕ, zero, suc, ◌+◌, Bool, true, false, not, ◌&&◌, List, [], ◌∷◌, ◌++◌, map, ◌==◌, nat_lt, slice_index}
use Rattle.determine_side_effects.specs.rows_crate.Walk.{Item}
use Rattle.determine_side_effects.specs.graph_crate.Check.{Graph}
use Rattle.determine_side_effects.specs.graph_access_crate.Names.{exports, flags, namespace, own_exports, only, statement_bits, statement_import_records, references, entry_module, entry_kind}
use Rattle.determine_side_effects.specs.graph_access_crate.Words.{flag, some, module_of, statement_of, normal, option}
use Rattle.keep_record.specs.Lines.{elem}
use Rattle.rust_values.specs.Values.{Pair, pair, none, found, optional, is_empty}
use Rattle.rust_engine.specs.Tables.{canonical_ref_for, iter_enumerated_without_namespace_stmt}

-- user_defined_entry_module_idxs (001:128-136)
unfoldable pub entry_idxs : List Item → List ℕ
entry_idxs [] = []
entry_idxs (e ∷ es) = elim (nat_lt (entry_kind e) 2) [ true ↦ entry_module e ∷ entry_idxs es | false ↦ entry_idxs es ]

unfoldable pub user_defined_entry_module_idxs : Graph → List ℕ
user_defined_entry_module_idxs g = entry_idxs g.entries

-- side_effects_included_on_demand (001:47-55)
unfoldable pub side_effects_included_on_demand : Graph → List ℕ → ℕ → Bool
side_effects_included_on_demand g v m =
    (slice_index v m == 2) && (exports (module_of g m) == 0 && (not (flag 0 (flags (module_of g m))) && not (elem m (user_defined_entry_module_idxs g))))

-- is_gated_side_effect_stmt (001:116-120)
unfoldable pub is_gated_side_effect_stmt : Item → Bool
is_gated_side_effect_stmt x = flag 0 (statement_bits x) && (not (is_empty (references x)) && is_empty (statement_import_records x))

-- compute_body_demand_keys (001:72-108)
unfoldable pub insert_keys : ℕ → List ℕ → List Pair → List Pair
insert_keys m [] map = map
insert_keys m (key ∷ keys) map = insert_keys m keys (pair key m ∷ map)

unfoldable pub keys_of : Graph → ℕ → List ℕ
keys_of g m = map (λ row. canonical_ref_for g (only row)) (own_exports (module_of g m)) ++ elim (optional (namespace (module_of g m))) [ none ↦ [] | found n ↦ n ∷ [] ]

unfoldable pub demands_of : Graph → List ℕ → ℕ → List Pair → List Pair
demands_of g v m map =
    elim (normal g m && (side_effects_included_on_demand g v m && some (λ i. is_gated_side_effect_stmt (statement_of g m i)) (iter_enumerated_without_namespace_stmt g m)))
    [ true ↦ insert_keys m (keys_of g m) map | false ↦ map ]

unfoldable pub demands_from : Graph → List ℕ → ℕ → ℕ → List Pair → List Pair
demands_from g v m zero map = map
demands_from g v m (suc n) map = demands_from g v (m + 1) n (demands_of g v m map)

unfoldable pub compute_body_demand_keys : Graph → List ℕ → List Pair
compute_body_demand_keys g v = elim (option g 0) [ true ↦ demands_from g v 0 g.header.modules [] | false ↦ [] ]
