pub mod Related
pub mod Plans
pub mod Passing
