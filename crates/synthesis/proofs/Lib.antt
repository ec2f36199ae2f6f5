-- The rows that a row goes by, and those that a set makes.
pub mod ColumnLaws
pub mod NeighbourLaws
pub mod NearRows
pub mod SetRows
-- The two filters' columns.
pub mod FilterColumns
-- A set worked out.
pub mod WorkLaws
pub mod KeptLaws
pub mod WorkedPast
pub mod SetMade
pub mod LevelLaws
pub mod BackLaws
-- Behind the calls.
pub mod CallLaws
pub mod PairMade
pub mod TolerantColumns
pub mod TolerantCalls
pub mod Clauses
