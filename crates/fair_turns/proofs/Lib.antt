pub mod Projection
pub mod Fed
pub mod Standing
pub mod Stopping
pub mod Tolerant
pub mod SideBySide
