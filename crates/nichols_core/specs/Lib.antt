-- what public contracts cite
pub mod Layout
pub mod Machine
pub mod SixLaws
pub mod Runs
pub mod States
pub mod Conditions
pub mod Changes
