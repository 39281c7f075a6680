-- What `play_settling` has, passed on to the crates above.
pub use Rattle.play.specs.PlaySettling.Settling
