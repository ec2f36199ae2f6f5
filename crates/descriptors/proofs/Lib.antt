pub mod LeftLaws
