-- The main definitions of each file.
-- `Search`: `walk`, `finished`.
-- `Cycles`: `OnCycle`, `cycled`.
pub mod Search
pub mod Cycles
pub mod Memory
pub mod Walked
