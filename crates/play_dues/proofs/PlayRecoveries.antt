-- What `play_recoveries` has, passed on to the crates above.
pub use Rattle.play_recoveries.proofs.StopLaws
