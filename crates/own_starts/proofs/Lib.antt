pub mod Writing
pub mod Noting
pub mod Bailing
pub mod Live
