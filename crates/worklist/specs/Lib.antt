-- The main definitions of `Drain`: `joins`, `news`, `drained`, `started`, `drain_of`.
pub mod Drain
pub mod Links
