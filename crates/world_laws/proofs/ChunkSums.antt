-- What `chunk_sums` has, passed on to the crates above.
pub use Rattle.world.proofs.ChunkSums.ChunkLemmas
