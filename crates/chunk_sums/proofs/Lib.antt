pub mod AheadLemmas
pub mod LaneLemmas
pub mod LinearLemmas
pub mod ChunkLemmas
pub mod SlicingLemmas
pub mod TableLemmas
