pub mod NineSeven
pub mod NineSevenFilter
pub mod Memory
pub mod Passes
pub mod Rows
pub mod Near
