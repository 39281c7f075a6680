-- What `world_recoveries` has, passed on to the crates above.
pub use Rattle.world_recoveries.proofs.AllNaming
pub use Rattle.world_recoveries.proofs.AllRecovering
