-- What `play_recoveries` has, passed on to the crates above.
pub use Rattle.play_dues.specs.PlayRecoveries.Joining
pub use Rattle.play_dues.specs.PlayRecoveries.Places
pub use Rattle.play_dues.specs.PlayRecoveries.Recoveries
pub use Rattle.play_dues.specs.PlayRecoveries.Showing
