pub mod Taking
pub mod Finishing
mod CountedBlocks
pub mod Statuses
pub mod Conclusions
pub mod DocumentRead
pub mod CommandReports
pub mod ReportLaws
pub mod Numbered
pub mod EndLines
pub mod Forms
pub mod Images
pub mod LongExpressions
pub mod LongLaws
pub mod Expressions
pub mod Covers
pub mod Each
pub mod Tables
pub mod Products
mod WorkedTexts
mod WorkedLimits
mod WorkedReports
