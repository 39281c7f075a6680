-- What `member_events` has, passed on to the crates above.
pub use Rattle.member_events.specs.Joining
pub use Rattle.member_events.specs.Roads
pub use Rattle.member_events.specs.Showing
