-- What `play_recoveries` has, passed on to the crates above.
pub use Rattle.play.specs.PlayRecoveries.Joining
pub use Rattle.play.specs.PlayRecoveries.Places
pub use Rattle.play.specs.PlayRecoveries.Recoveries
pub use Rattle.play.specs.PlayRecoveries.Showing
