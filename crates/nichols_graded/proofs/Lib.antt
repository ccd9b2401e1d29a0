mod Division
pub mod EndLaws
pub mod StopLaws
pub mod WholeLaws
pub mod FactorLaws
mod FactorSteps
mod FinishedDegrees
mod SplitLists
mod RowStops
mod DegreeStops
mod BlockSizes
mod DegreeLists
mod WaveRules
mod Listed
mod SurveyLaws
mod WaveEnds
