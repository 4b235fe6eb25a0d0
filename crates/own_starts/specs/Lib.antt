-- The main definitions of each file.
-- `Once`: `once`, `triples`.
-- `Noting`: `Noting`, `Notes`.
pub mod Once
pub mod Noting
