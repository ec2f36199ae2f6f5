pub mod NearestChange
pub mod Calls
pub mod Trials
