-- The main definitions of each file.
-- `Rules`: `Segment`, `segments_of`, `gives`.
-- `Prepared`: `Prepared`.
pub mod Rules
pub mod Prepared
