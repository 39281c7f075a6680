-- What `recovery_events` has, passed on to the crates above.
pub use Rattle.play_servers.specs.RecoveryEvents.Orders
