pub mod ReadLemmas
pub mod WholeLemmas
pub mod ChunkSums
