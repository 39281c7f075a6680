-- What `play_dues` has, passed on to the crates above.
pub use Rattle.play.specs.PlayDues.Drawing
pub use Rattle.play.specs.PlayDues.Listing
pub use Rattle.play.specs.PlayDues.Live
pub use Rattle.play.specs.PlayDues.LiveConns
pub use Rattle.play.specs.PlayDues.Places
pub use Rattle.play.specs.PlayDues.Showing
pub use Rattle.play.specs.PlayDues.Spent
