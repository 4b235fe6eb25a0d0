pub mod Scan
pub mod Turn
pub mod Counting
pub mod Filling
pub mod Fuel
