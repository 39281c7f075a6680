-- What `member_events` has, passed on to the crates above.
pub use Rattle.play_clients.specs.MemberEvents.Roads
