-- what public contracts cite: what the shelf stands on, what a pass knows, the calls
pub mod Plan
pub mod Lists
pub mod Places
pub mod Views
pub mod Passes
pub mod Untouched
pub mod Calls
pub mod Settled
pub mod Joining
pub mod Closed
pub mod Laws
-- what words, seats and slots stand for: the rule of the table, of which the laws speak
pub mod Words
pub mod Seats
pub mod Slots
pub mod Stands
-- what this crate's own functions and types cite
pub mod Steps
pub mod Out
pub mod Moves
pub mod Owed
pub mod Stored
pub mod Tables
pub mod Ended
-- for callers that mark what a pass knows, and for the tests
pub mod Played
pub mod Alone
