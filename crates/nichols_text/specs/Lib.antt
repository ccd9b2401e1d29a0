-- what public contracts cite
pub mod Words
pub mod Pieces
pub mod Expressions
pub mod Lines
pub mod Refusals
