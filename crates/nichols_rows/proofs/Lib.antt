pub mod Rows
pub mod LoopsOverPlaces
pub mod Split
