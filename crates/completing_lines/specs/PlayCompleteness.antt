-- What `play_completeness` has, passed on to the crates above.
pub use Rattle.completing_writers.specs.PlayCompleteness.Complete
