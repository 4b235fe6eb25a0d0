pub mod Texts
pub mod Same
pub mod Reasons
pub mod Showing
pub mod Reading
pub mod Onward
pub mod Rooms
pub mod OfPrograms
