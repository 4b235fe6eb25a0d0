-- The main definitions: `IsFile` of `Input`, `PartOf` of `Output`.
pub mod Input
pub mod Output
