-- What `recovery_core` has, passed on to the crates above.
pub use Rattle.recovery_core.specs.Members
pub use Rattle.recovery_core.specs.declared.members.RecoveryReply
