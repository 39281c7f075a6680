-- What `member_core` has, passed on to the crates above.
pub use Rattle.pipe_member.specs.MemberCore.Members
pub use Rattle.pipe_member.specs.MemberCore.Mirror
pub use Rattle.pipe_member.specs.MemberCore.Requests
pub use Rattle.pipe_member.specs.MemberCore.Shuts
pub use Rattle.pipe_member.specs.MemberCore.Steps
pub use Rattle.pipe_member.specs.MemberCore.Turn
