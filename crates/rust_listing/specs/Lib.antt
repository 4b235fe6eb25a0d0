-- The main definitions of each file.
-- `Listing`: `rust_listing`.
-- `Operation`: `KeepListsRust`, `KeepListsRustButDead`, `FiveForLinesOnly`.
pub mod Listing
pub mod Operation
