pub mod Tiers
pub mod Giving
pub mod Ending
