pub mod Going
pub mod Segments
pub mod References
pub mod Goods
