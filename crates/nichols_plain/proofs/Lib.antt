pub mod Numbers
pub mod Functionals
pub mod Steps
pub mod CandidatePlaces
