-- what public contracts cite
pub mod CombinationAt
pub mod Places
