-- What `world_recoveries` has, passed on to the crates above.
pub use Rattle.world_recoveries.specs.Naming
pub use Rattle.world_recoveries.specs.Recovering
