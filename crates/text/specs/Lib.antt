pub mod Decimal
pub mod Text
pub mod Refusal
pub mod Moves
