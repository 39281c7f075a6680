-- What `primary_events` has, passed on to the crates above.
pub use Rattle.primary_events.proofs.ShutLemmas
