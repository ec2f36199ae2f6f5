pub mod Signal
pub mod Word
pub mod Tests
