-- The main definitions of each file.
-- `Effects`: `moves`, `settle`, `last_verdicts`.
-- `Paths`: `Leads`, `ByPaths`.
-- `Sequence`: `rust_verdicts`, `RustSequence`, `LastByPaths`.
-- `Operation`: `effects_answer`, `effects_row`.
-- `Tabled`: `HasVerdicts`, `Settled`.
pub mod Effects
pub mod Paths
pub mod Operation
pub mod Sequence
pub mod Tabled
-- The crates below, for the crates above.
pub use Rattle.facts.specs as facts_crate
pub use Rattle.facts.specs.graph_crate
pub use Rattle.facts.specs.graph_access_crate
pub use Rattle.facts.specs.graph_entries_crate
pub use Rattle.facts.specs.graph_format_crate
pub use Rattle.facts.specs.graph_tables_crate
pub use Rattle.facts.specs.index_crate
pub use Rattle.facts.specs.rows_crate
pub use Rattle.facts.specs.tables_crate
pub use Rattle.facts.specs.refusal_crate
