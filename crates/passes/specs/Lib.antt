-- The main definitions of each file.
-- `Bailouts`: `bailouts_starts`.
-- `Helpers`: `helper_word`, `helper_union`, `runtime_starts`.
pub mod Bailouts
pub mod Helpers
