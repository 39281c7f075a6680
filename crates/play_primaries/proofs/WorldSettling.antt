-- What `world_settling` has, passed on to the crates above.
pub use Rattle.play_readers.proofs.WorldSettling.Actors
pub use Rattle.play_readers.proofs.WorldSettling.Members
pub use Rattle.play_readers.proofs.WorldSettling.PrimaryAsides
pub use Rattle.play_readers.proofs.WorldSettling.ReaderNodeAsides
