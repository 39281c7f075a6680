-- What `play_dues` has, passed on to the crates above.
pub use Rattle.play_lines.specs.PlayDues.Live
pub use Rattle.play_lines.specs.PlayDues.LiveConns
pub use Rattle.play_lines.specs.PlayDues.Showing
