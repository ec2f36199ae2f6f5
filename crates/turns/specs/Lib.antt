pub mod Marks
pub mod Order
pub mod Answers
pub mod Calls
pub mod Lists
