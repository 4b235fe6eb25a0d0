-- The main definitions of each file.
-- `Tables`: `header_in`, `modules_in`, `symbols_in`, `statements_in`, `entries_in`, `first_of`.
-- `Places`: `Placed`, `Filled`, `ModuleTable`, `SymbolTable`, `StatementTable`, `EntryTable`.
pub mod Tables
pub mod Places
-- The crates below, for the crates above.
pub use Rattle.tables.specs as tables_crate
pub use Rattle.tables.specs.graph_format_crate
pub use Rattle.tables.specs.rows_crate
pub use Rattle.tables.specs.refusal_crate
