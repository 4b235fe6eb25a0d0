-- The main definitions of `Complete`: `is_complete`.
pub mod Complete
