pub mod Figures
pub mod Range
pub mod Filters
