pub mod LimitLaws
pub mod HeaderReads
pub mod RunReads
pub mod SampleReads
pub mod HeightLaws
pub mod InputCases
pub mod InputReads
