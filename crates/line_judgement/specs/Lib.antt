-- The main definitions of each file.
-- `Stand`: `is_justified`, `stands`, `first_bad`.
-- `Steps`: `Trails`.
pub mod Stand
pub mod Steps
