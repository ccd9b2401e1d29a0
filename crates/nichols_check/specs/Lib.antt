-- what public contracts cite
pub mod Table
pub mod TableRefusal
pub mod Texts
pub mod Certificate
pub mod Answers
-- the statements of the laws
pub mod Laws
