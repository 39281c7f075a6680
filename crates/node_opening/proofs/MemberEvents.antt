-- What `member_events` has, passed on to the crates above.
pub use Rattle.play_nodes.proofs.MemberEvents.SetupKnown
