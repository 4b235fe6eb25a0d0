-- The main definitions of `Following`: `lines_by`.
pub mod Following
