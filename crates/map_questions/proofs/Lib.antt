pub mod QuestionLaws
pub mod MapAsks
