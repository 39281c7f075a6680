-- What `world_settling` has, passed on to the crates above.
pub use Rattle.world_settling.proofs.Actors
pub use Rattle.world_settling.proofs.Members
pub use Rattle.world_settling.proofs.PrimaryAsides
pub use Rattle.world_settling.proofs.ReaderAsides
pub use Rattle.world_settling.proofs.ReaderNodeAsides
