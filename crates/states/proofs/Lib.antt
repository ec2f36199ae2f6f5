pub mod StateLaws
pub mod StateTheorems
