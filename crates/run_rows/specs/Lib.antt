-- The main definitions of `Run`: `run_of`, `helpers_row`, `entries_row`.
pub mod Run
