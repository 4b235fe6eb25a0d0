pub mod Accepted
pub mod Staying
pub mod Exporting
pub mod Gathering
pub mod Words
pub mod Helping
pub mod Using
pub mod Planning
