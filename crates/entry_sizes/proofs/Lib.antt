pub mod Splitting
pub mod Tiers
pub mod Outcome
