-- what public contracts cite
pub mod Normal
-- the statements of the laws
pub mod Laws
-- what the crate's own functions cite
pub mod Sums
pub mod Forms
pub mod Shares
-- what the tests cite
pub mod Whole
