-- What `world_settling` has, passed on to the crates above.
pub use Rattle.play_laws.specs.WorldSettling.Measure
pub use Rattle.play_laws.specs.WorldSettling.Traffic
