-- what public contracts cite
pub mod Command
pub mod Numbers
pub mod Texts
pub mod PlainForm
pub mod DecimalForm
-- what the crate's own functions cite
pub mod Given
