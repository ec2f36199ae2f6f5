pub mod RunLaws
pub mod ListedTheorem
