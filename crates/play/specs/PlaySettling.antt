-- What `play_settling` has, passed on to the crates above.
pub use Rattle.play_settling.specs.Settling
