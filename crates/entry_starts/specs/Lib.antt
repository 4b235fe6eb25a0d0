-- The main definitions of each file.
-- `Starts`: `module_starts`, `user_starts`.
-- `Working`: `Working`, `Started`.
pub mod Starts
pub mod Working
