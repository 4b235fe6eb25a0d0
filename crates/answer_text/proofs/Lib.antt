pub mod Finals
pub mod Outcomes
pub mod Fitting
pub mod Texts
pub mod Answered
