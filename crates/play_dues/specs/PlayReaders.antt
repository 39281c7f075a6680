-- What `play_readers` has, passed on to the crates above.
pub use Rattle.play_reads.specs.PlayReaders.Asks
pub use Rattle.play_reads.specs.PlayReaders.Frames
pub use Rattle.play_reads.specs.PlayReaders.ReadClient
