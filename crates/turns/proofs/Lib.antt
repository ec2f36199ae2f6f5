pub mod MarkLaws
pub mod OrderLaws
pub mod CallLaws
pub mod Lists
pub mod Samples
