-- The main definitions of `Justify`: `same_fact`, `follows`, `joined_by_either`.
pub mod Justify
pub mod Search
