-- What `world_writers` has, passed on to the crates above.
pub use Rattle.world_writers.specs.Piping
pub use Rattle.world_writers.specs.Taking
