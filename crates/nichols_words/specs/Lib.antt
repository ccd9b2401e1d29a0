-- what public contracts cite
pub mod Word
pub mod Comb
-- what the fields of a word and the merge use
pub mod Fields
pub mod Next
