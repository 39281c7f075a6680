-- What `play_dues` has, passed on to the crates above.
pub use Rattle.play_opening.specs.PlayDues.Live
pub use Rattle.play_opening.specs.PlayDues.LiveConns
pub use Rattle.play_opening.specs.PlayDues.Places
pub use Rattle.play_opening.specs.PlayDues.Showing
