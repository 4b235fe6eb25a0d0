pub mod ByPart
pub mod Follow
pub mod Spans
pub mod Searches
pub mod Joining
