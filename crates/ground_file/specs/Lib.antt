pub mod Groups
pub mod File
pub mod Maps
pub mod Samples
pub mod Local
pub mod Values
pub mod Saving
pub mod Header
