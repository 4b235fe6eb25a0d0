-- An accepted graph and the tables of its places, as the stages above the check take them.
use Rattle.std.specs.Prelude.{ℕ, ◌≤◌, ◌≡◌, List, length}
use Rattle.graph_entries.specs.tables_crate.Layout.{Laid, module_places, symbol_places, first_statements, statement_places, entry_places, at_verdicts}
use Rattle.graph_entries.specs.graph_tables_crate.Tables.{header_in}
use Rattle.graph_entries.specs.graph_tables_crate.Places.{ModuleTable, SymbolTable, StatementTable, EntryTable}
use Rattle.graph.specs.Check.{check_of, answer_of}
use Rattle.std.specs.Prelude.{Ok}

-- the five sections hold the places of the decoded graph's items
pub record Places (numbers tables : List ℕ) : Type 0 where
  pub of_modules : ModuleTable numbers (module_places tables)
  pub of_symbols : SymbolTable numbers (symbol_places tables)
  pub of_statements : StatementTable numbers (first_statements tables) (statement_places tables)
  pub of_entries : EntryTable numbers (entry_places tables)

pub record Loaded (numbers tables : List ℕ) : Type 0 where
  pub accepted : answer_of (check_of numbers) ≡ Ok tt
  pub long : 7 ≤ length numbers
  pub laid : Laid (header_in numbers) at_verdicts tables
  pub of_modules : ModuleTable numbers (module_places tables)
  pub of_symbols : SymbolTable numbers (symbol_places tables)
  pub of_statements : StatementTable numbers (first_statements tables) (statement_places tables)
  pub of_entries : EntryTable numbers (entry_places tables)
  pub few_modules : (header_in numbers).modules ≤ 1024
  pub few_symbols : (header_in numbers).symbols ≤ 16384
  pub few_statements : (header_in numbers).statements ≤ 16384
  pub few_entries : (header_in numbers).entries ≤ 1024
