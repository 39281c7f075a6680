-- What `recovery_core` has, passed on to the crates above.
pub use Rattle.world.specs.RecoveryCore.OwnStep
pub use Rattle.world.specs.RecoveryCore.Primaries
pub use Rattle.world.specs.RecoveryCore.Recovered
pub use Rattle.world.specs.RecoveryCore.Standing
