pub mod Found
pub mod Values
pub mod Entries
pub mod Orders
pub mod ReadKinds
pub mod Searches
pub mod KeyOrder
pub mod LeastKeys
pub mod ValueLaws
pub mod DueLaws
pub mod OnLiterals
mod WorkedDocuments
mod Limits
