pub mod Lists
pub mod Settled
pub mod ByPaths
pub mod Below
pub mod Reading
pub mod InSection
pub mod Loading
