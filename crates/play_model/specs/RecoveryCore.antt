-- What `recovery_core` has, passed on to the crates above.
pub use Rattle.world_laws.specs.RecoveryCore.Members
pub use Rattle.world_laws.specs.RecoveryCore.RecoveryReply
