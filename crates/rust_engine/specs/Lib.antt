-- The main definitions of each file.
-- `Context`: `Context`.
-- `Engine`: `Drains`.
-- `EntryPoints`: `Reached`, `Exactly`.
pub mod Context
pub mod Tables
pub mod OnDemand
pub mod Engine
pub mod EntryPoints
