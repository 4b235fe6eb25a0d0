-- The crates below, for the crates above.
pub use Rattle.graph_tables.specs as graph_tables_crate
pub use Rattle.graph_tables.specs.graph_format_crate
pub use Rattle.graph_tables.specs.rows_crate
pub use Rattle.graph_tables.specs.tables_crate
pub use Rattle.graph_tables.specs.refusal_crate
