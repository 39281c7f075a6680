-- What `member_events` has, passed on to the crates above.
pub use Rattle.member_events.proofs.CauseLaws
pub use Rattle.member_events.proofs.DownEvents
pub use Rattle.member_events.proofs.EndLaws
pub use Rattle.member_events.proofs.FaultEvents
pub use Rattle.member_events.proofs.JoinFaults
pub use Rattle.member_events.proofs.KnownLaws
pub use Rattle.member_events.proofs.MemberLaws
pub use Rattle.member_events.proofs.SetupKnown
pub use Rattle.member_events.proofs.StepLaws
pub use Rattle.member_events.proofs.TakeLaws
pub use Rattle.member_events.proofs.WorldLaws
