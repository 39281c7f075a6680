-- What `play_readers` has, passed on to the crates above.
pub use Rattle.play_opening.specs.PlayReaders.Asks
pub use Rattle.play_opening.specs.PlayReaders.ReadClient
