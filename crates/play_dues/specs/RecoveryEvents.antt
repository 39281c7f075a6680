-- What `recovery_events` has, passed on to the crates above.
pub use Rattle.play_reads.specs.RecoveryEvents.Orders
