pub mod Naming
pub mod Justifying
pub mod Judging
