-- The main definitions of `Operations`: `KeepRead`, `KeepEffects`, `KeepDrain`, `KeepRun`, `KeepStarts`.
pub mod Operations
-- The crates below, for the crates above.
pub use Rattle.answers.specs as answers_crate
pub use Rattle.determine_side_effects.specs.graph_crate
pub use Rattle.drain_parts.specs as drain_parts_crate
pub use Rattle.judge_parts.specs as judge_parts_crate
pub use Rattle.run_parts.specs as run_parts_crate
pub use Rattle.run_starts.specs as run_starts_crate
