-- What `world_acks` has, passed on to the crates above.
pub use Rattle.world_acks.proofs.AllAcked
pub use Rattle.world_acks.proofs.Frame
