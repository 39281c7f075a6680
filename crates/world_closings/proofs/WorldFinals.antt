-- What `world_finals` has, passed on to the crates above.
pub use Rattle.world_writers.proofs.WorldFinals.AllFinal
