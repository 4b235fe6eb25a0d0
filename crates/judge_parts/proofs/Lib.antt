pub mod Starting
pub mod Readying
pub mod Answering
