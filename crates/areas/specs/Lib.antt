pub mod Areas
pub mod Elements
pub mod Kept
pub mod Places
