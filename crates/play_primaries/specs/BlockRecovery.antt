-- What `block_recovery` has, passed on to the crates above.
pub use Rattle.primary_events.specs.BlockRecovery.Awaiting
pub use Rattle.primary_events.specs.BlockRecovery.Dialling
pub use Rattle.primary_events.specs.BlockRecovery.Link
pub use Rattle.primary_events.specs.BlockRecovery.Seat
