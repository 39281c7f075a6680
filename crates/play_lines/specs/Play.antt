-- What `play` has, passed on to the crates above.
pub use Rattle.play_opening.specs.Play.Events
pub use Rattle.play_opening.specs.Play.PlayFault
pub use Rattle.play_opening.specs.Play.Player
pub use Rattle.play_opening.specs.Play.Standing
