-- The main definitions of `DynamicEntries`: `Constructs`, `FromEntries`, `TarjanScc`, `SortDynamicEntriesByTopologicalOrder`.
pub mod DynamicEntries
