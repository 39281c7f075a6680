-- What `play_primaries` has, passed on to the crates above.
pub use Rattle.play_primaries.specs.Clients
pub use Rattle.play_primaries.specs.Deeds
pub use Rattle.play_primaries.specs.Dues
pub use Rattle.play_primaries.specs.Frames
pub use Rattle.play_primaries.specs.Hearing
pub use Rattle.play_primaries.specs.Owning
pub use Rattle.play_primaries.specs.declared.clients.PrimaryClient
pub use Rattle.play_primaries.specs.declared.clients.PrimaryState
pub use Rattle.play_primaries.specs.declared.deeds.Deed
