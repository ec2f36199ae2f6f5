pub mod Inside
pub mod Order
