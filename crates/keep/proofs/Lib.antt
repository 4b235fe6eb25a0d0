pub mod Counted
pub mod Parted
