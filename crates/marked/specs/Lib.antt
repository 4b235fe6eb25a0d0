-- The main definitions of `Marked`: `marked`.
pub mod Marked
