-- what public contracts cite: all of it
pub mod Block
pub mod Rule
pub mod Value
pub mod Worth
-- how a rule is kept
pub mod Kept
-- what a rule says of a word
pub mod Looked
-- what the laws say
pub mod Laws
