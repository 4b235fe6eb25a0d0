pub mod Sweeping
pub mod Following
pub mod InOrder
