-- What `play_clients` has, passed on to the crates above.
pub use Rattle.play_dues.proofs.PlayClients.OtherLaws
