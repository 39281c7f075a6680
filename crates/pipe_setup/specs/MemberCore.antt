-- What `member_core` has, passed on to the crates above.
pub use Rattle.member_core.specs.Acks
pub use Rattle.member_core.specs.Members
pub use Rattle.member_core.specs.Requests
pub use Rattle.member_core.specs.Steps
pub use Rattle.member_core.specs.declared.effects.Effect
pub use Rattle.member_core.specs.declared.effects.SetupAnswer
pub use Rattle.member_core.specs.declared.effects.Shuts
pub use Rattle.member_core.specs.declared.effects.Upward
pub use Rattle.member_core.specs.declared.inputs.FromAbove
pub use Rattle.member_core.specs.declared.inputs.FromBelow
pub use Rattle.member_core.specs.declared.member.Mirror
pub use Rattle.member_core.specs.declared.requests.TheConstants
pub use Rattle.member_core.specs.declared.turns.Booked
pub use Rattle.member_core.specs.declared.turns.Side
pub use Rattle.member_core.specs.declared.turns.Turn
