pub mod AreaLaws
pub mod PartLaws
pub mod InterleaveLaws
pub mod HeightLaws
pub mod Splices
pub mod HalfLaws
pub mod ApartLaws
mod Clauses
pub mod ElementLaws
