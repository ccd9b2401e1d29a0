-- what public contracts cite
pub mod Degrees
pub mod Products
-- the statements of the laws
pub mod Laws
-- what the calls cite
pub mod WordProducts
-- what the crate's own functions cite
pub mod Parts
