pub mod Filling
pub mod Readying
