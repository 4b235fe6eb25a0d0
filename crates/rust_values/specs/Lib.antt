-- The main definitions of `Values`: `Pair`, `Found`, `optional`, `get`, `In`, `SameMembers`.
pub mod Values
