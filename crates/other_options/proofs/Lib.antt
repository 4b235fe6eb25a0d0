pub mod Changed
pub mod Cases
pub mod Verdicts
pub mod Rules
pub mod Draining
pub mod Ordering
pub mod Trying
pub mod Rounds
