pub mod Targets
pub mod Entering
pub mod FillingUp
