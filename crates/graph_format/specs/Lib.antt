-- The main definitions of `Format`: `header_rules`, `module_rules`, `module_lists`, `symbol_rules`, `symbol_lists`, `reference_at`, `statement_at`,
--     `entry_at`.
pub mod Format
-- The crates below, for the crates above.
pub use Rattle.rows.specs as rows_crate
pub use Rattle.rows.specs.refusal_crate
