-- What `play_readers` has, passed on to the crates above.
pub use Rattle.play.specs.PlayReaders.Asks
pub use Rattle.play.specs.PlayReaders.ReadClient
