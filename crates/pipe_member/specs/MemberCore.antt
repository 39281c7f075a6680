-- What `member_core` has, passed on to the crates above.
pub use Rattle.pipe_setup.specs.MemberCore.Booked
pub use Rattle.pipe_setup.specs.MemberCore.Effect
pub use Rattle.pipe_setup.specs.MemberCore.FromAbove
pub use Rattle.pipe_setup.specs.MemberCore.FromBelow
pub use Rattle.pipe_setup.specs.MemberCore.Members
pub use Rattle.pipe_setup.specs.MemberCore.Mirror
pub use Rattle.pipe_setup.specs.MemberCore.Requests
pub use Rattle.pipe_setup.specs.MemberCore.SetupAnswer
pub use Rattle.pipe_setup.specs.MemberCore.Shuts
pub use Rattle.pipe_setup.specs.MemberCore.Side
pub use Rattle.pipe_setup.specs.MemberCore.Steps
pub use Rattle.pipe_setup.specs.MemberCore.TheConstants
pub use Rattle.pipe_setup.specs.MemberCore.Turn
pub use Rattle.pipe_setup.specs.MemberCore.Upward
