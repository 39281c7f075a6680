-- What `member_core` has, passed on to the crates above.
pub use Rattle.world.specs.MemberCore.Acks
pub use Rattle.world.specs.MemberCore.Booked
pub use Rattle.world.specs.MemberCore.Effect
pub use Rattle.world.specs.MemberCore.FromAbove
pub use Rattle.world.specs.MemberCore.FromBelow
pub use Rattle.world.specs.MemberCore.Members
pub use Rattle.world.specs.MemberCore.Mirror
pub use Rattle.world.specs.MemberCore.Requests
pub use Rattle.world.specs.MemberCore.SetupAnswer
pub use Rattle.world.specs.MemberCore.SetupKind
pub use Rattle.world.specs.MemberCore.Shuts
pub use Rattle.world.specs.MemberCore.Side
pub use Rattle.world.specs.MemberCore.Steps
pub use Rattle.world.specs.MemberCore.TheConstants
pub use Rattle.world.specs.MemberCore.Turn
pub use Rattle.world.specs.MemberCore.Upward
