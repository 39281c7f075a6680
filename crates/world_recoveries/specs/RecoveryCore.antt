-- What `recovery_core` has, passed on to the crates above.
pub use Rattle.world_laws.specs.RecoveryCore.Members
pub use Rattle.world_laws.specs.RecoveryCore.OwnStep
pub use Rattle.world_laws.specs.RecoveryCore.Primaries
pub use Rattle.world_laws.specs.RecoveryCore.RecoveryReply
pub use Rattle.world_laws.specs.RecoveryCore.Standing
