pub mod Windows
pub mod Pieces
pub mod Lines
pub mod Running
pub mod Whole
