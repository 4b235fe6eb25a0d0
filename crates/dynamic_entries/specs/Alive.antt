-- Whether a dynamic entry is live, and what a try that finds it dead marks (003:170-217, `is_dynamic_entry_alive`).
use Rattle.std.specs.Prelude.{ℕ, zero, suc, ◌+◌, ◌-◌, Bool, true, false, not, ◌||◌, ◌&&◌, List, [], ◌∷◌, eqb, length, get_or}
use Rattle.determine_side_effects.specs.rows_crate.Walk.{Item}
use Rattle.determine_side_effects.specs.graph_crate.Check.{Graph}
use Rattle.determine_side_effects.specs.graph_access_crate.Names.{flags, import_records, import_record_target, import_record_bits, related, related_module, related_statement, related_import_record, unreachable}
use Rattle.determine_side_effects.specs.graph_access_crate.Words.{flag, some, module_of, entry_of}
use Rattle.determine_side_effects.specs.facts_crate.Facts.{statement_fact}
use Rattle.determine_side_effects.specs.Effects.{has_effects}
use Rattle.determine_side_effects.specs.facts_crate.declared.Fact.{Fact}
use Rattle.entry_order.specs.Order.{module_of_entry}

-- the import record of a related statement
unfoldable pub record_of : Graph → List ℕ → List ℕ
record_of g row = get_or (import_records (module_of g (related_module row))) (related_import_record row) []

-- a top level pure dynamic import of a module without effects (`all_dead_pure_dynamic_import`)
unfoldable pub is_pure : Graph → List ℕ → List ℕ → Bool
is_pure g v row = not (has_effects v (import_record_target (record_of g row) - 1)) && flag 1 (import_record_bits (record_of g row))

-- module m's dynamic imports use no export (flag 4, `DynamicImportExportsUsage::Partial` of an empty set)
unfoldable pub uses_no_export : Graph → ℕ → Bool
uses_no_export g m = flag 4 (flags (module_of g m))

-- A related statement that lets its entry, of module m, live: reachable, kept, and not an import that may go. `kept` says which facts there are.
unfoldable pub lets_live : Graph → List ℕ → (Fact → Bool) → ℕ → List ℕ → Bool
lets_live g v kept m row =
    elim (eqb (unreachable row) 0) [
      | true ↦ kept (statement_fact (related_module row) (related_statement row)) && (not (uses_no_export g m) || not (is_pure g v row))
      | false ↦ false
    ]

unfoldable pub is_alive : Graph → List ℕ → (Fact → Bool) → ℕ → Bool
is_alive g v kept e = some (lets_live g v kept (module_of_entry g e)) (related (entry_of g e))

-- how many import records the first m modules have: the dead bits are one running row
unfoldable pub records_before : List Item → ℕ → ℕ
records_before modules zero = 0
records_before [] (suc m) = 0
records_before (x ∷ modules) (suc m) = length (import_records x) + records_before modules m

-- a try that finds the entry dead marks each reachable import of it that may go
unfoldable pub dead_of : Graph → List ℕ → List (List ℕ) → List ℕ
dead_of g v [] = []
dead_of g v (row ∷ rows) =
    elim (eqb (unreachable row) 0 && is_pure g v row) [
      | true ↦ (records_before g.modules (related_module row) + related_import_record row) ∷ dead_of g v rows
      | false ↦ dead_of g v rows
    ]
