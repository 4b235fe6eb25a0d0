pub mod Readying
pub mod Staging
pub mod Working
pub mod Showing
pub mod Ending
pub mod InOrder
pub mod Tiers
