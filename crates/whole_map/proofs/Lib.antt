pub mod Demand2
