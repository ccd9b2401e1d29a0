pub mod GrowingSums
mod LongestWords
mod RowForms
pub mod WordForms
pub mod PartForms
pub mod ElementForms
pub mod KeptForms
mod ManyForms
pub mod LastDegree
pub mod ReduceLaws
mod WholeLevels
