-- What `world_settling` has, passed on to the crates above.
pub use Rattle.world_settling.proofs.Actors
