pub mod Behind
mod WorkedLimits
