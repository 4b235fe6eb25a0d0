pub mod Tests
pub mod Listing
pub mod OfModule
pub mod Forwards
pub mod OfStatement
pub mod OfSymbol
pub mod Exactly
