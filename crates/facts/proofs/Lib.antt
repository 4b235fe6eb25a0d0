pub mod ByKind
pub mod Marking
pub mod Marks
pub mod Folds
