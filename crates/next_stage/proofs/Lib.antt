pub mod Staying
pub mod Forgetting
