pub mod Changed
pub mod Conditions
pub mod Debts
pub mod EdgesFound
pub mod EdgesLaid
pub mod Entries
pub mod Events
pub mod LawsKept
pub mod MarksAtStart
pub mod MarksWritten
pub mod Passes
pub mod RunsKept
pub mod Sorted
pub mod Stages
pub mod StatesKept
pub mod Steps
mod WorkedRows
