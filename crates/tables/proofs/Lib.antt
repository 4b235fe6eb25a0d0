pub mod Sections
pub mod Laying
pub mod Writing
pub mod Zeros
