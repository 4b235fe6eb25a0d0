-- The tables that the Rust's functions ask, over the words of the decoded graph. `v` are the modules' side effects as 002 leaves them.
use Rattle.std.specs.Prelude.{ℕ, ◌-◌, Bool, true, false, ◌||◌, List, [], ◌∷◌, length, ◌==◌, nat_eq, slice_index}
use Rattle.determine_side_effects.specs.graph_crate.Check.{Graph}
use Rattle.determine_side_effects.specs.graph_access_crate.Names.{namespace, common_js_namespaces, export_name, export_symbol, namespace_symbol, namespace_module, owner}
use Rattle.determine_side_effects.specs.graph_access_crate.Words.{tabulate, module_of, symbol_of, statement_list, root_of}
use Rattle.rust_values.specs.Values.{Found, none, found, optional}

-- ctx.symbols.canonical_ref_for
abbrev pub canonical_ref_for : Graph → ℕ → ℕ
canonical_ref_for g s = root_of g.symbols s

abbrev pub owner_of : Graph → ℕ → ℕ
owner_of g s = owner (symbol_of g s)

-- DeterminedSideEffects::has_side_effects: Analyzed(true), UserDefined(true), NoTreeshake
unfoldable pub has_side_effects : List ℕ → ℕ → Bool
has_side_effects v m = slice_index v m == 1 || (slice_index v m == 3 || slice_index v m == 4)

-- ctx.metas[..].import_record_ns_to_cjs_module.get(..), a map that is filled from the rows
unfoldable pub namespace_row : ℕ → Found → List (List ℕ) → Found
namespace_row s before [] = before
namespace_row s before (row ∷ rows) = namespace_row s (elim (namespace_symbol row == s) [ true ↦ found (namespace_module row) | false ↦ before ]) rows

unfoldable pub import_record_ns_to_cjs_module : Graph → ℕ → Found
import_record_ns_to_cjs_module g s = namespace_row s none (common_js_namespaces (module_of g (owner_of g s)))

-- ctx.metas[..].resolved_exports.get(name)
unfoldable pub resolved_export : ℕ → List (List ℕ) → Found
resolved_export name [] = none
resolved_export name (row ∷ rows) = elim (export_name row == name) [ true ↦ found (export_symbol row) | false ↦ resolved_export name rows ]

-- ctx.modules[s.owner].namespace_object_ref() == Some(s)
unfoldable pub is_module_namespace : Graph → ℕ → Bool
is_module_namespace g s = elim (optional (namespace (module_of g (owner_of g s)))) [ none ↦ false | found n ↦ nat_eq n s ]

-- Statements but the namespace's, with their indexes
unfoldable pub iter_enumerated_without_namespace_stmt : Graph → ℕ → List ℕ
iter_enumerated_without_namespace_stmt g m = tabulate (λ i. i) 1 (length (statement_list g m) - 1)
