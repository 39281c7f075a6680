-- What `play_clients` has, passed on to the crates above.
pub use Rattle.play_clients.specs.Blocks
pub use Rattle.play_clients.specs.declared.clients.Client
