-- what public contracts cite
pub mod Ends
pub mod Factors
pub mod Graded
-- the statements of the laws
pub mod FactorLaws
pub mod Laws
pub mod StopLaws
pub mod WholeLaws
-- what the crate's own functions cite
pub mod Ahead
pub mod Sizes
