-- What `recovery_core` has, passed on to the crates above.
pub use Rattle.block_recovery.specs.RecoveryCore.Members
pub use Rattle.block_recovery.specs.RecoveryCore.RecoveryReply
