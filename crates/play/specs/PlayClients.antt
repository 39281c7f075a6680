-- What `play_clients` has, passed on to the crates above.
pub use Rattle.play_dues.specs.PlayClients.Blocks
pub use Rattle.play_dues.specs.PlayClients.Client
pub use Rattle.play_dues.specs.PlayClients.Clients
