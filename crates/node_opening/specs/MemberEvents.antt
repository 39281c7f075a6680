-- What `member_events` has, passed on to the crates above.
pub use Rattle.play_nodes.specs.MemberEvents.Roads
pub use Rattle.play_nodes.specs.MemberEvents.Showing
