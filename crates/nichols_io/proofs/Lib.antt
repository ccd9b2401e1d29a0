pub mod BytesLemmas
pub mod MemoryLemmas
