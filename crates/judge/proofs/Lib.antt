pub mod Tiers
