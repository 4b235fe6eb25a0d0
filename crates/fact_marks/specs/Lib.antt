-- The main definitions of `Marks`: `Marks`.
pub mod Marks
