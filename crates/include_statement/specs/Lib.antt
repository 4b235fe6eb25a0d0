-- The main definitions of `Here`: `Here`.
pub mod Here
