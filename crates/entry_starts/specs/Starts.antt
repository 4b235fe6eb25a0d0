-- What an entry starts (docs/RULES.md, Steps 1 and 4; 000:316-339; 003:43-62).
use Rattle.std.specs.Prelude.{ℕ, true, false, List, [], ◌∷◌, ◌++◌, map}
use Rattle.determine_side_effects.specs.graph_crate.Check.{Graph}
use Rattle.determine_side_effects.specs.graph_access_crate.Names.{owner, declaring_statements, entry_references, only}
use Rattle.determine_side_effects.specs.graph_access_crate.Words.{module_of, symbol_of, normal}
use Rattle.determine_side_effects.specs.facts_crate.declared.Fact.{Fact}
use Rattle.determine_side_effects.specs.facts_crate.Facts.{module_fact, statement_fact, checked_fact, bailout_fact}

-- the statements that declare the symbol itself (`include_declaring_statements`)
unfoldable pub declared : Graph → ℕ → List Fact
declared g s = map (λ row. statement_fact (owner (symbol_of g s)) (only row)) (declaring_statements (symbol_of g s))

-- an entry reference with a normal owner: those statements, then a checked use with EntryExport
unfoldable pub reference_starts : Graph → ℕ → List Fact
reference_starts g s = elim (normal g (owner (symbol_of g s))) [ true ↦ declared g s ++ checked_fact s 2 ∷ [] | false ↦ [] ]

unfoldable pub references_starts : Graph → List (List ℕ) → List Fact
references_starts g [] = []
references_starts g (row ∷ rows) = reference_starts g (only row) ++ references_starts g rows

-- a module that is an entry: its references in order, then the module; nothing of an external one
unfoldable pub module_starts : Graph → ℕ → List Fact
module_starts g m = elim (normal g m) [ true ↦ references_starts g (entry_references (module_of g m)) ++ module_fact m ∷ [] | false ↦ [] ]

-- a user-defined one: its bailout first
unfoldable pub user_starts : Graph → ℕ → List Fact
user_starts g m = elim (normal g m) [ true ↦ bailout_fact m ∷ module_starts g m | false ↦ [] ]
