-- What `play_primaries` has, passed on to the crates above.
pub use Rattle.play_dues.specs.PlayPrimaries.Clients
pub use Rattle.play_dues.specs.PlayPrimaries.PrimaryClient
pub use Rattle.play_dues.specs.PlayPrimaries.PrimaryState
