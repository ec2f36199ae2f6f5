pub mod CountLaws
pub mod LevelLaws
pub mod WaitLaws
