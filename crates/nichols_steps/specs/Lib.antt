-- what the functions of this program cite
pub mod Pairs
pub mod Crew
