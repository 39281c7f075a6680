-- What `play_completeness` has, passed on to the crates above.
pub use Rattle.play_completeness.specs.Complete
pub use Rattle.play_completeness.specs.Keeping
pub use Rattle.play_completeness.specs.Plain
pub use Rattle.play_completeness.specs.Played
