pub mod Bailouts
pub mod Demands
pub mod ByName
pub mod OfTarget
pub mod InOrder
