pub mod Deciding
pub mod Entering
pub mod Halfway
pub mod Behind
