-- What `world_finals` has, passed on to the crates above.
pub use Rattle.world_finals.proofs.AllFinal
pub use Rattle.world_finals.proofs.Laws
