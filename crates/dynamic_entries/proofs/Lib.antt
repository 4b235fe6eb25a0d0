pub mod Parting
pub mod Firsts
pub mod Completing
pub mod Copying
pub mod Sorting
pub mod Lengths
pub mod Searching
pub mod Building
