pub mod ProductForms
pub mod WordProducts
pub mod PartSums
pub mod PartTerms
pub mod PartProducts
pub mod RunningProducts
pub mod AnsweredProducts
pub mod AnswerLaws
