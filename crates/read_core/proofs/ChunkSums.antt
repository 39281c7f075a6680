-- What `chunk_sums` has, passed on to the crates above.
pub use Rattle.chunk_sums.proofs.ChunkLemmas
