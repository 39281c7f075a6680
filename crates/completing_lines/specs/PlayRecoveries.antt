-- What `play_recoveries` has, passed on to the crates above.
pub use Rattle.play_lines.specs.PlayRecoveries.Places
