pub mod Numbering
pub mod DeadBits
pub mod Ending
pub mod Exempting
pub mod Clearing
pub mod DeadNow
pub mod Agreeing
pub mod Late
