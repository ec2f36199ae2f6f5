pub mod Numbers
pub mod Coming
pub mod Taken
pub mod Loader
pub mod LoaderLists
pub mod Loading
pub mod LoaderAnswers
pub mod Local
