-- What `op_headers` has, passed on to the crates above.
pub use Rattle.op_headers.specs.Answers
pub use Rattle.op_headers.specs.Requests
pub use Rattle.op_headers.specs.Values
pub use Rattle.op_headers.specs.declared.answers.RecoveryAnswer
pub use Rattle.op_headers.specs.declared.nodes.NodeRef
pub use Rattle.op_headers.specs.declared.ops.Op
pub use Rattle.op_headers.specs.declared.ops.ReadOp
pub use Rattle.op_headers.specs.declared.ops.RecoveryKind
pub use Rattle.op_headers.specs.declared.ops.RecoveryOp
