pub mod Walks
pub mod Columns
pub mod Many
pub mod Cells
pub mod Distinct
pub mod Chains
pub mod Items
