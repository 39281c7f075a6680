-- What `recovery_events` has, passed on to the crates above.
pub use Rattle.recovery_events.specs.Faults
pub use Rattle.recovery_events.specs.Orders
pub use Rattle.recovery_events.specs.declared.faults.RecoveryFault
