-- What `play_clients` has, passed on to the crates above.
pub use Rattle.play_opening.specs.PlayClients.Blocks
pub use Rattle.play_opening.specs.PlayClients.Client
