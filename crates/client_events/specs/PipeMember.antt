-- What `pipe_member` has, passed on to the crates above.
pub use Rattle.member_events.specs.PipeMember.Looked
pub use Rattle.member_events.specs.PipeMember.Looks
