-- What `play_clients` has, passed on to the crates above.
pub use Rattle.play_opening.proofs.PlayClients.OtherLaws
