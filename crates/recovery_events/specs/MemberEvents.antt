-- What `member_events` has, passed on to the crates above.
pub use Rattle.member_events.specs.Beginning
pub use Rattle.member_events.specs.Roads
pub use Rattle.member_events.specs.Showing
pub use Rattle.member_events.specs.declared.beginning.FirstRequest
pub use Rattle.member_events.specs.declared.faults.MemberFault
