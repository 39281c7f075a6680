-- What `play_recoveries` has, passed on to the crates above.
pub use Rattle.play_opening.specs.PlayRecoveries.Joining
pub use Rattle.play_opening.specs.PlayRecoveries.Places
