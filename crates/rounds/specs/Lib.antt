pub mod Machine
pub mod Rounds
