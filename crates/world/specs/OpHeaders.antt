-- What `op_headers` has, passed on to the crates above.
pub use Rattle.member_core.specs.OpHeaders.Answers
pub use Rattle.member_core.specs.OpHeaders.NodeRef
pub use Rattle.member_core.specs.OpHeaders.Op
pub use Rattle.member_core.specs.OpHeaders.ReadOp
pub use Rattle.member_core.specs.OpHeaders.RecoveryKind
pub use Rattle.member_core.specs.OpHeaders.RecoveryOp
pub use Rattle.member_core.specs.OpHeaders.Requests
pub use Rattle.member_core.specs.OpHeaders.Values
