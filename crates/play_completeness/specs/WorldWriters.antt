-- What `world_writers` has, passed on to the crates above.
pub use Rattle.world_closings.specs.WorldWriters.Taking
