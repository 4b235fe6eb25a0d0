-- The main definitions of each file.
-- `Lists`: `place_of`, `module_widths`, `symbol_widths`, `module_limits`, `symbol_limits`.
-- `Names`: each number, list and column of the decoded graph by name.
-- `Words`: `module_of`, `symbol_of`, `statement_of`, `root_of`.
-- `References`: `reference_width`, `ReferencesAt`.
-- `Related`: `RelatedHere`, `RelatedIs`.
pub mod Lists
pub mod Names
pub mod Words
pub mod References
pub mod Related
-- The crates below, for the crates above.
pub use Rattle.graph.specs as graph_crate
pub use Rattle.graph.specs.graph_entries_crate
pub use Rattle.graph.specs.graph_format_crate
pub use Rattle.graph.specs.graph_tables_crate
pub use Rattle.graph.specs.rows_crate
pub use Rattle.graph.specs.tables_crate
pub use Rattle.index.specs as index_crate
pub use Rattle.graph.specs.refusal_crate
