pub mod Tolerant
