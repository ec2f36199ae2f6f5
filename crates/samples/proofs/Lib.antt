pub mod SamplesHold
pub mod ReadingsHold
