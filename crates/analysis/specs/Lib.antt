-- What a filter does to a row, a set made of that, and what then stands in a level's stretch.
pub mod Columns
pub mod Sets
pub mod Stands
-- A level as the streams know it.
pub mod Forward
-- The 5/3's sets in one pass.
pub mod Pairs
