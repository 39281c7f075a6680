-- What `play_primaries` has, passed on to the crates above.
pub use Rattle.play.specs.PlayPrimaries.Clients
pub use Rattle.play.specs.PlayPrimaries.PrimaryClient
pub use Rattle.play.specs.PlayPrimaries.PrimaryState
