pub mod Filled
pub mod PassLaws
pub mod OnePassLaws
pub mod EndLaws
pub mod TurnLaws
pub mod CallLaws
pub mod Nearest
pub mod Finite
