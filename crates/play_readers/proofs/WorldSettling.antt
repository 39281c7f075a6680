-- What `world_settling` has, passed on to the crates above.
pub use Rattle.reader_events.proofs.WorldSettling.Actors
pub use Rattle.reader_events.proofs.WorldSettling.Members
pub use Rattle.reader_events.proofs.WorldSettling.PrimaryAsides
pub use Rattle.reader_events.proofs.WorldSettling.ReaderNodeAsides
