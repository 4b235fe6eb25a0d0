pub mod Checking
pub mod Loading
pub mod LaterRules
pub mod WellFormed
pub mod Kept
