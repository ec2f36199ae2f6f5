pub mod Families
pub mod Reading
pub mod Together
pub mod FedInTurn
pub mod Standing
pub mod Stopping
pub mod Tolerant
pub mod SideBySide
