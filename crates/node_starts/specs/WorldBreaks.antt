-- What `world_breaks` has, passed on to the crates above.
pub use Rattle.world_breaks.specs.Breaks
