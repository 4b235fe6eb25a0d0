pub mod Chains
pub mod Limits
pub mod Modules
pub mod ReferenceParts
