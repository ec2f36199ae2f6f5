pub mod RoundLaws
pub mod RoundTheorems
