pub mod Done
pub mod Repeats
pub mod Passing
pub mod OfStarts
