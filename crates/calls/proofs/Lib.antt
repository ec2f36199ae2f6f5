pub mod AllLaws
pub mod ListLaws
pub mod QuestionLaws
