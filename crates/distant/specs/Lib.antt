pub mod LastLists
pub mod Distant
