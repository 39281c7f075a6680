-- What `chunk_sums` has, passed on to the crates above.
pub use Rattle.world.specs.ChunkSums.Chunks
pub use Rattle.world.specs.ChunkSums.Crc
