-- dynamic_entries.rs (003): whether a dynamic entry is alive, and its processing, under the Rust's names. An entry is its number in the graph.
-- A relation holds where the Rust returns.
use Rattle.std.specs.Prelude.{◌≡◌, ℕ, ◌-◌, Bool, true, false, not, ◌&&◌, ◌||◌, List, [], ◌∷◌, ◌++◌, ◌==◌, nat_lt, slice_index_or}
use Rattle.determine_side_effects.specs.graph_crate.Check.{Graph}
use Rattle.determine_side_effects.specs.graph_access_crate.Names.{flags, entry_references, import_records, import_record_target, import_record_bits, only, entry_kind, related, related_module, related_statement, related_import_record, unreachable}
use Rattle.determine_side_effects.specs.graph_access_crate.Words.{flag, module_of, normal, entry_of}
use Rattle.keep_record.specs.Lines.{elem}
use Rattle.rust_values.specs.Values.{Pair, pair, has_pair}
use Rattle.rust_engine.specs.Context.{Context, module_item, push}
use Rattle.rust_engine.specs.Tables.{owner_of, has_side_effects}
use Rattle.rust_engine.specs.Engine.{Drains, enqueue_declaring_statements, push_symbol_and_check_cjs_bailout}
use Rattle.rust_order.specs.DynamicEntries.{entry_idx}

-- the entry references of a module (003:51-60, and 000:326-337 for user-defined entries)
pub data References (g : Graph) (v : List ℕ) : List (List ℕ) → Context → Context → Type 0 where
  no_more : (c : Context) → References g v [] c c
  of_external : (row : List ℕ) (rows : List (List ℕ)) (c d : Context) → normal g (owner_of g (only row)) ≡ false → References g v rows c d → References g v (row ∷ rows) c d
  -- include_declaring_statements, then include_symbol_and_check_cjs_bailout with EntryExport
  of_normal : (row : List ℕ) (rows : List (List ℕ)) (c c₁ c₂ d : Context) → normal g (owner_of g (only row)) ≡ true → Drains g v (enqueue_declaring_statements g (only row) c) c₁
      → Drains g v (push_symbol_and_check_cjs_bailout g (only row) 2 c₁) c₂ → References g v rows c₂ d → References g v (row ∷ rows) c d

-- a normal module that is an entry: its references, then include_module (003:50-61, 000:325-338)
pub record IncludesEntry (g : Graph) (v : List ℕ) (m : ℕ) (c d : Context) : Type 0 where
  pub between : Context
  pub of_references : References g v (entry_references (module_of g m)) c between
  pub of_module : Drains g v (push (module_item m) between) d

-- is_dynamic_entry_alive (003:170-217) ---------------------------------------------------------------------------------------------------

-- Option<Vec<(ModuleIdx, ImportRecordIdx)>>: none where the entry is alive
pub data Unused : Type 0 where
  alive : Unused
  unused : List Pair → Unused

-- &module.import_records[*import_record_idx]
unfoldable pub related_record : Graph → List ℕ → List ℕ
related_record g r = slice_index_or (import_records (module_of g (related_module r))) (related_import_record r) []

-- all_dead_pure_dynamic_import (003:193-203)
unfoldable pub all_dead_pure_dynamic_import : Graph → List ℕ → List ℕ → Bool
all_dead_pure_dynamic_import g v r = not (has_side_effects v (import_record_target (related_record g r) - 1)) && flag 1 (import_record_bits (related_record g r))

-- is_dynamic_imported_module_exports_unused (003:180-183)
unfoldable pub exports_unused : Graph → ℕ → Bool
exports_unused g m = flag 4 (flags (module_of g m))

-- lived (003:204-206)
unfoldable pub lived : Graph → List ℕ → Context → ℕ → List ℕ → Bool
lived g v c m r = has_pair (related_module r) (related_statement r) c.statements && (not (exports_unused g m) || not (all_dead_pure_dynamic_import g v r))

-- related_stmt_infos.iter().any(..) (003:186-213): it stops at the first live one; `ret` is what was pushed by then
unfoldable pub any_lived : Graph → List ℕ → Context → ℕ → List Pair → List (List ℕ) → Unused
any_lived g v c m ret [] = unused ret
any_lived g v c m ret (r ∷ rs) =
    elim (unreachable r == 1) [
      | true ↦ any_lived g v c m ret rs
      | false ↦ elim (lived g v c m r) [
        | true ↦ alive
        | false ↦ any_lived g v c m (elim (all_dead_pure_dynamic_import g v r) [ true ↦ ret ++ (pair (related_module r) (related_import_record r) ∷ []) | false ↦ ret ]) rs
      ]
    ]

unfoldable pub is_dynamic_entry_alive : Graph → List ℕ → Context → ℕ → Unused
is_dynamic_entry_alive g v c e =
    elim (nat_lt (entry_kind (entry_of g e)) 2) [ true ↦ alive | false ↦ any_lived g v c (entry_idx g e) [] (related (entry_of g e)) ]

-- process_and_retain_dynamic_entry (003:25-63) -------------------------------------------------------------------------------------------

-- the first `if` lets the entry pass: it is on a cycle, or alive
unfoldable pub is_alive : Unused → Bool
is_alive alive = true
is_alive (unused ret) = false

unfoldable pub passes : Graph → List ℕ → List ℕ → Context → ℕ → Bool
passes g v cycled c e = elem (entry_idx g e) cycled || is_alive (is_dynamic_entry_alive g v c e)

-- from a context and `unused_record_idxs` to those after it, and the Bool that it returns
pub data ProcessAndRetainDynamicEntry (g : Graph) (v cycled : List ℕ) (e : ℕ) (c : Context) (dead : List Pair) : Context → List Pair → Bool → Type 0 where
  is_dead : (ret : List Pair) → elem (entry_idx g e) cycled ≡ false → is_dynamic_entry_alive g v c e ≡ unused ret → ProcessAndRetainDynamicEntry g v cycled e c dead c (dead ++ ret) false
  is_external : passes g v cycled c e ≡ true → normal g (entry_idx g e) ≡ false → ProcessAndRetainDynamicEntry g v cycled e c dead c dead true
  includes : (d : Context) → passes g v cycled c e ≡ true → normal g (entry_idx g e) ≡ true → IncludesEntry g v (entry_idx g e) c d
      → ProcessAndRetainDynamicEntry g v cycled e c dead d dead true
