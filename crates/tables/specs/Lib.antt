-- The main definitions of `Layout`: `sizes`, `start_of`, `section`, `Laid`, `Kept`, `FitsSize`.
pub mod Layout
-- The crates below, for the crates above.
pub use Rattle.graph_format.specs as graph_format_crate
pub use Rattle.graph_format.specs.rows_crate
pub use Rattle.graph_format.specs.refusal_crate
