-- what public contracts cite
pub mod Degree
-- what the crate's own functions cite
pub mod Columns
