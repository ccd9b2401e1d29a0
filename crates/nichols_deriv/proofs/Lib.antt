pub mod Passed
pub mod Derivatives
