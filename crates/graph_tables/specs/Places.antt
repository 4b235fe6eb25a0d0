-- Tables of where each module, symbol, statement and entry begins.
use Rattle.std.specs.Prelude.{ℕ, ◌+◌, ◌<◌, ◌≤◌, ◌≡◌, List, [], length, get_or}
use Rattle.tables.specs.rows_crate.Walk.{Parsed, got, fault, Item, no_item}
use Rattle.graph_tables.specs.Tables.{header_in, modules_read, modules_in, symbols_read, symbols_in, statements_read, statements_in, entries_read, entries_in, first_of}

-- the table holds the items' places, from `base` on
abbrev pub Placed : ℕ → List Item → List ℕ → Type 0
Placed base items table = (i : ℕ) → i < length items → get_or table (base + i) 0 ≡ (get_or items i no_item).place

-- of items that were read
abbrev pub Filled : Parsed (List Item) → ℕ → List ℕ → Type 0
Filled (got items q) base table = Placed base items table
Filled (fault why) base table = Unit {0}

-- the table of the modules, once they are read without a fault
pub record ModuleTable (numbers table : List ℕ) : Type 0 where
  pub end : ℕ
  pub read : modules_read numbers ≡ got (modules_in numbers) end
  pub places : Placed 0 (modules_in numbers) table
  pub long : (header_in numbers).modules ≤ length table

-- of the symbols
pub record SymbolTable (numbers table : List ℕ) : Type 0 where
  pub end : ℕ
  pub read : symbols_read numbers ≡ got (symbols_in numbers) end
  pub places : Placed 0 (symbols_in numbers) table
  pub long : (header_in numbers).symbols ≤ length table

-- of the statements: `first` has the number of each module's first statement, among those of all modules
pub record StatementsPlaced (modules : List Item) (statements : List (List Item)) (first table : List ℕ) : Type 0 where
  pub firsts : (m : ℕ) → m < length statements → get_or first m 0 ≡ first_of modules m
  pub places : (m : ℕ) → m < length statements → Placed (first_of modules m) (get_or statements m []) table

abbrev pub StatementsFilled : List Item → Parsed (List (List Item)) → List ℕ → List ℕ → Type 0
StatementsFilled modules (got statements q) first table = StatementsPlaced modules statements first table
StatementsFilled modules (fault why) first table = Unit {0}

pub record StatementTable (numbers first table : List ℕ) : Type 0 where
  pub end : ℕ
  pub read : statements_read numbers ≡ got (statements_in numbers) end
  pub placed : StatementsPlaced (modules_in numbers) (statements_in numbers) first table
  pub long : (header_in numbers).modules ≤ length first
  pub wide : (header_in numbers).statements ≤ length table

-- of the entries
pub record EntryTable (numbers table : List ℕ) : Type 0 where
  pub end : ℕ
  pub read : entries_read numbers ≡ got (entries_in numbers) end
  pub places : Placed 0 (entries_in numbers) table
  pub long : (header_in numbers).entries ≤ length table
