pub mod AnswerTexts
pub mod Commas
pub mod PortPieces
pub mod Version1
pub mod ForecastTexts
pub mod ForecastLaws
pub mod TraceResult
pub mod UnchangedProbes
