-- What `member_events` has, passed on to the crates above.
pub use Rattle.member_events.proofs.SetupKnown
