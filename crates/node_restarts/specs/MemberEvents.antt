-- What `member_events` has, passed on to the crates above.
pub use Rattle.node_opening.specs.MemberEvents.Roads
pub use Rattle.node_opening.specs.MemberEvents.Showing
