pub mod Writing
pub mod Keeping
