-- The main definitions of each file.
-- `Relation`: `Gives`, `Joins`.
-- `Same`: `GivesExactly`.
pub mod Relation
pub mod Same
