-- what public contracts cite
pub mod Combination
pub mod Rising
pub mod WordOrder
pub mod Words
pub mod Positions
pub mod Parts
pub mod InOrder
pub mod Relation
pub mod Product
pub mod Span
pub mod Laws
-- what invariants and private functions use
pub mod Inline
pub mod Gathered
