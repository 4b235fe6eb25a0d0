pub mod Facts
pub mod Filling
pub mod OneItem
pub mod ByModule
pub mod Sections
