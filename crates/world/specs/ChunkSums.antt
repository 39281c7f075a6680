-- What `chunk_sums` has, passed on to the crates above.
pub use Rattle.read_core.specs.ChunkSums.Chunks
pub use Rattle.read_core.specs.ChunkSums.Crc
