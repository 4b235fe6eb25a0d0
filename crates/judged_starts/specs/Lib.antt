-- The main definitions of `Operation`: `StartsGiven`.
pub mod Operation
