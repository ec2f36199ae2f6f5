pub mod Samples
pub mod Reading
