-- What `world_recoveries` has, passed on to the crates above.
pub use Rattle.world_acks.proofs.WorldRecoveries.AllRecovering
