pub mod DecimalLaws
pub mod TextLaws
pub mod RefusalLaws
pub mod MoveLaws
