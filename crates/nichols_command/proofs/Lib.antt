pub mod Digits
mod DecimalTexts
pub mod PlainRows
pub mod PlainWalk
pub mod PlainEnd
pub mod WorkedLines
