-- What `client_events` has, passed on to the crates above.
pub use Rattle.primary_events.proofs.ClientEvents.PassLaws
