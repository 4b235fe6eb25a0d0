pub mod Bailing
pub mod Reasons
pub mod Enums
pub mod Stands
pub mod Places
