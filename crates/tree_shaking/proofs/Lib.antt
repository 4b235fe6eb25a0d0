pub mod Longer
pub mod Users
pub mod Trying
pub mod Lives
pub mod Turning
pub mod Modules
pub mod Stages
