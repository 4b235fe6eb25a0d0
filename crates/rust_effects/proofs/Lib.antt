pub mod Filtered
pub mod Spreading
pub mod Gathering
pub mod SameVerdicts
pub mod Returns
