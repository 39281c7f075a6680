-- What `play_primaries` has, passed on to the crates above.
pub use Rattle.play_primaries.specs.Clients
pub use Rattle.play_primaries.specs.declared.clients.PrimaryClient
