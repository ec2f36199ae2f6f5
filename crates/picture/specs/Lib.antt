pub mod Form
pub mod Rewriting
pub mod Machine
