-- what public contracts cite
pub mod Lower
pub mod Levels
pub mod Making
-- what the crate's own functions cite
pub mod Below
pub mod Allowed
pub mod Words
pub mod Gathered
pub mod Rows
pub mod NewRows
pub mod Places
pub mod Forms
pub mod Pass
-- what its tests cite
pub mod Tested
