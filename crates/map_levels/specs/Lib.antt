pub mod Rowwise
pub mod Passes
pub mod ByFilter
pub mod LevelPasses
pub mod Sweep
pub mod SweepBack
pub mod BackLines
pub mod Sides
