-- What is asked of a level forward, and a store from a place on.
pub mod LevelLaws
pub mod RestLaws
-- Rows of a stretch: where they stand, filled, deinterleaved, doubled.
pub mod Places
pub mod Spots
pub mod RowSteps
pub mod PairLaws
pub mod DeinterleavedLaws
pub mod FillLaws
-- The way back.
pub mod OpenedSets
pub mod RowsIn
pub mod SlotLaws
pub mod BandsIn
pub mod TriedRows
pub mod AdmitLaws
pub mod WorkLaws
pub mod KeptLaws
pub mod WorkedPast
pub mod RebuildingLaws
pub mod LevelHas
-- What is asked of a level there.
pub mod ReaderLaws
