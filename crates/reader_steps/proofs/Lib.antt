pub mod OpenedSets
pub mod Looks
pub mod CellLaws
pub mod BandLaws
pub mod SetLaws
pub mod EnterLaws
pub mod ReadyLaws
pub mod StepsLeft
