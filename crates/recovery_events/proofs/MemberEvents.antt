-- What `member_events` has, passed on to the crates above.
pub use Rattle.member_events.proofs.FaultEvents
pub use Rattle.member_events.proofs.WorldLaws
