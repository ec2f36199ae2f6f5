pub mod RunLaws
pub mod RewrittenTheorem
