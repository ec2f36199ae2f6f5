pub mod StepLaws
pub mod FigureLaws
pub mod RoundLaws
pub mod CallLaws
pub mod RoundAsks
pub mod BandRows
