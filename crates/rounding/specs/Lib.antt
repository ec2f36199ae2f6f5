pub mod Rounding
pub mod Figure
pub mod Calls
pub mod Plain
pub mod Step
