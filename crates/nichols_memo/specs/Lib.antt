-- what public contracts cite: forms, what a seat knows, the calls
pub mod Forms
pub mod Hash
pub mod Views
pub mod Seats
pub mod Calls
pub mod Laws
-- the rule of the table, of which the laws speak
pub mod Rule
-- what this crate's own types cite
pub mod Steps
