-- What `world_settling` has, passed on to the crates above.
pub use Rattle.play_primaries.proofs.WorldSettling.PrimaryAsides
pub use Rattle.play_primaries.proofs.WorldSettling.ReaderNodeAsides
