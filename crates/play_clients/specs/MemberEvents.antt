-- What `member_events` has, passed on to the crates above.
pub use Rattle.client_events.specs.MemberEvents.Roads
pub use Rattle.client_events.specs.MemberEvents.Showing
