-- What `play` has, passed on to the crates above.
pub use Rattle.play.specs.Cutting
pub use Rattle.play.specs.Events
pub use Rattle.play.specs.Laws
pub use Rattle.play.specs.Reading
pub use Rattle.play.specs.Showing
pub use Rattle.play.specs.Standing
pub use Rattle.play.specs.Starting
pub use Rattle.play.specs.Stopping
pub use Rattle.play.specs.declared.faults.PlayFault
pub use Rattle.play.specs.declared.player.Player
