pub mod Picks
pub mod Forwards
pub mod Segments
