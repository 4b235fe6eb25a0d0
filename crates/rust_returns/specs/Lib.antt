-- The main definitions of each file.
-- `Following`: `Choosing`, `Follows`.
-- `Circle`: `GivesUse`, `Circle`, `HasChoices`, `ReturnsUnlessCircles`, `NeverOnCircles`, `ReturnsExactly`, `ReturnsAndAgrees`.
-- `Example`: `circle`, `NeverReturns`.
pub mod Following
pub mod Circle
pub mod Example
