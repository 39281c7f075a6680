-- What `pipe_member` has, passed on to the crates above.
pub use Rattle.member_events.specs.PipeMember.Exchanges
pub use Rattle.member_events.specs.PipeMember.Member
