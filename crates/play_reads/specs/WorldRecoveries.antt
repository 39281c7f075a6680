-- What `world_recoveries` has, passed on to the crates above.
pub use Rattle.play_primaries.specs.WorldRecoveries.Recovering
