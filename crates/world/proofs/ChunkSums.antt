-- What `chunk_sums` has, passed on to the crates above.
pub use Rattle.read_core.proofs.ChunkSums.ChunkLemmas
