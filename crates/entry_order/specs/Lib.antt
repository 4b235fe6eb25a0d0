-- The main definitions of each file.
-- `Order`: `grouped`, `user_entries`, `dynamic_entries`.
-- `Chains`: `Chained`.
-- `Plan`: `live_at`, `dead_at`, `cycled_at`, `words_at`, `plan_size`.
pub mod Order
pub mod Kinds
pub mod Chains
pub mod Plan
