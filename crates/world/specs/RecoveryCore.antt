-- What `recovery_core` has, passed on to the crates above.
pub use Rattle.recovery_core.specs.Members
pub use Rattle.recovery_core.specs.Primaries
pub use Rattle.recovery_core.specs.declared.members.RecoveryReply
pub use Rattle.recovery_core.specs.declared.primary.OwnStep
pub use Rattle.recovery_core.specs.declared.primary.Phase
pub use Rattle.recovery_core.specs.declared.primary.Recovered
pub use Rattle.recovery_core.specs.declared.standings.Heard
pub use Rattle.recovery_core.specs.declared.standings.Standing
