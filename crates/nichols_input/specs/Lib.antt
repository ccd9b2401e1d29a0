-- what public contracts cite
pub mod Keys
pub mod Shapes
pub mod Refusal
pub mod Document
pub mod Laws
-- what private functions use
pub mod Tables
