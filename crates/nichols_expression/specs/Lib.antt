-- what public contracts cite
pub mod Bytes
pub mod Grammar
pub mod Reader
pub mod WholeWord
pub mod Printed
pub mod Answers
pub mod Faults
pub mod Laws
-- what private functions use
pub mod Steps
