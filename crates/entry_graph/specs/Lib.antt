-- The main definitions of `Ordering`: `construct`, `entry_graph`.
pub mod Ordering
pub mod Memory
pub mod Steps
