pub mod LastLists
pub mod LevelsOn
pub mod Distant
