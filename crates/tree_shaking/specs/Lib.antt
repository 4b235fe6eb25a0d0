-- The main definitions of each file.
-- `Rounds`: `round`, `rounds_from`, `main_part`, `final_entries`, `runtime_stage`.
-- `Own`: `own_starts`, `run_starts`, `starts_by_kind`.
pub mod Rounds
pub mod Own
pub mod Parts
