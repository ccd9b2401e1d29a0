-- what public contracts cite
pub mod Counts
pub mod Bytes
pub mod Source
pub mod Sink
pub mod Memory
