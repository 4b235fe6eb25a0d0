-- The main definitions of each file.
-- `IncludeStatements`: `IncludeStatements`, `Returns`, `Outcome`.
-- `Agreement`: `Agrees`, `AsRust`.
-- `Boundary`: `RunShowsRust`, `RowsAgree`.
pub mod DynamicEntries
pub mod Passes
pub mod IncludeStatements
pub mod Agreement
pub mod Boundary
