pub mod Together
pub mod Declaring
pub mod Referring
