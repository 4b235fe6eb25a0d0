-- The main definitions of `Cursors`: `left`, `Placed`.
pub mod Cursors
