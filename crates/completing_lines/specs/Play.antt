-- What `play` has, passed on to the crates above.
pub use Rattle.play_lines.specs.Play.Events
pub use Rattle.play_lines.specs.Play.PlayFault
pub use Rattle.play_lines.specs.Play.Player
pub use Rattle.play_lines.specs.Play.Standing
