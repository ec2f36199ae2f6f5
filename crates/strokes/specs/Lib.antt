pub mod Reach
pub mod Strokes
pub mod Artists
pub mod Local
