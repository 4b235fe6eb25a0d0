-- The main definitions of each file.
-- `Choice`: `LiveAgainst`, `Settled`, `SmallestSettled`.
-- `Until`: `Idle`, `NoModule`, `rounds_made`, `Until`.
-- `Order`: `SameButOrder`, `SameCycles`, `SameChoice`.
-- `Operation`: `EverySettles`, `EveryUntil`, `FuelNever`, `EveryBegins`, `EveryOrder`.
pub mod Choice
pub mod Until
pub mod Order
pub mod Operation
