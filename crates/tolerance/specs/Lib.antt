pub mod Limits
pub mod Back
pub mod Figure
