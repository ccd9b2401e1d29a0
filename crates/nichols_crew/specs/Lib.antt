-- what contracts of this crate and of those above cite
pub mod Wave
pub mod Values
pub mod Counting
-- what this crate's own functions cite
pub mod Tasks
pub mod Lower
pub mod Owing
pub mod Kept
pub mod Hands
