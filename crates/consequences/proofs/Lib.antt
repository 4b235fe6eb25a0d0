pub mod Walking
pub mod BySegment
