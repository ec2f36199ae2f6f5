pub mod Lines
pub mod Listing
pub mod Events
pub mod Parts
pub mod States
pub mod Moves
pub mod Pieces
