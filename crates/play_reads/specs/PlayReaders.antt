-- What `play_readers` has, passed on to the crates above.
pub use Rattle.play_primaries.specs.PlayReaders.Asks
pub use Rattle.play_primaries.specs.PlayReaders.Clients
pub use Rattle.play_primaries.specs.PlayReaders.Frames
pub use Rattle.play_primaries.specs.PlayReaders.ReadClient
pub use Rattle.play_primaries.specs.PlayReaders.ReadState
