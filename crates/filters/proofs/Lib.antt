pub mod FigureLaws
pub mod RangeLaws
pub mod Filters
pub mod PlainFigures
-- Each filter as a lifting in two steps.
pub mod Liftings
