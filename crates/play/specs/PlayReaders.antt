-- What `play_readers` has, passed on to the crates above.
pub use Rattle.play_dues.specs.PlayReaders.Asks
pub use Rattle.play_dues.specs.PlayReaders.ReadClient
