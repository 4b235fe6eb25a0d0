-- The main definitions of `Demand`: `on_demand`, `gated`, `claims`, `body_of`.
pub mod Demand
pub mod Tabled
