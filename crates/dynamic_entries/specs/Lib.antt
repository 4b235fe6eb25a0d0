-- The main definitions of each file.
-- `Sorted`: `sorted_entries`, `on_cycle`.
-- `Alive`: `is_alive`, `dead_of`.
-- `Tries`: `Progress`, `tried`, `tries`, `Planned`.
pub mod Sorted
pub mod Alive
pub mod Tries
pub mod Parts
