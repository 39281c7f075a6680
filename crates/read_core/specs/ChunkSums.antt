-- What `chunk_sums` has, passed on to the crates above.
pub use Rattle.chunk_sums.specs.Chunks
pub use Rattle.chunk_sums.specs.Crc
