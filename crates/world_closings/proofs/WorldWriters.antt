-- What `world_writers` has, passed on to the crates above.
pub use Rattle.world_writers.proofs.AllJoin
pub use Rattle.world_writers.proofs.AllMove
pub use Rattle.world_writers.proofs.AllPiped
