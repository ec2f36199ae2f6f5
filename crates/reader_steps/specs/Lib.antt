pub mod Sets
pub mod Asked
pub mod Places
