-- The main definitions of each file.
-- `Check`: `Graph`, `graph_at`, `later_rules`, `check_of`, `graph_in`.
-- `Loaded`: `Loaded`.
pub mod Check
pub mod Loaded
-- The crates below, for the crates above.
pub use Rattle.graph_entries.specs as graph_entries_crate
pub use Rattle.graph_entries.specs.graph_format_crate
pub use Rattle.graph_entries.specs.graph_tables_crate
pub use Rattle.graph_entries.specs.rows_crate
pub use Rattle.graph_entries.specs.tables_crate
pub use Rattle.graph_entries.specs.refusal_crate
