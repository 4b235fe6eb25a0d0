-- The main definitions: `with_options`, `SameButBit`.
pub mod Options
