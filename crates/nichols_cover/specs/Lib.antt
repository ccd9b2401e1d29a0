-- what public contracts cite
pub mod Ideal
pub mod Cover
-- the statements of the laws
pub mod Products
pub mod Laws
-- what the crate's own functions cite
pub mod Units
pub mod Rows
pub mod Level
