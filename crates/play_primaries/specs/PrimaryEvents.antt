-- What `primary_events` has, passed on to the crates above.
pub use Rattle.primary_events.specs.Beginning
pub use Rattle.primary_events.specs.Faults
pub use Rattle.primary_events.specs.Leading
pub use Rattle.primary_events.specs.Showing
pub use Rattle.primary_events.specs.declared.faults.PrimaryFault
