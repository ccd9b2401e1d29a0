-- what contracts of this crate and of those above cite
pub mod Cells
pub mod Combination
pub mod Split
pub mod Rows
pub mod Parts
pub mod Sums
-- what this crate's own functions cite
pub mod Echelon
pub mod Sweep
pub mod NextRow
pub mod Numbering
