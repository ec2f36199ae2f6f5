pub mod LimitLaws
pub mod LineApart
pub mod Sample
