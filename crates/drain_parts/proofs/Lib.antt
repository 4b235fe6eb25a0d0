pub mod Working
pub mod Ending
pub mod Readying
pub mod InOrder
