-- What `play_readers` has, passed on to the crates above.
pub use Rattle.play_primaries.proofs.PlayReaders.AskLaws
