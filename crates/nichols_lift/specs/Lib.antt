-- what public contracts cite
pub mod Laws
pub mod ClosedForm
pub mod Reading
pub mod Lengths
pub mod Perm
-- what the fields of a permutation use
pub mod PermFields
