-- The main definitions of `DetermineSideEffects`: `gathered`, `Propagates`, `DetermineSideEffects`, `RecomputeAnalyzedSideEffects`, `SideEffects`.
pub mod DetermineSideEffects
