-- What `world_acks` has, passed on to the crates above.
pub use Rattle.play_laws.proofs.WorldAcks.AllAcked
pub use Rattle.play_laws.proofs.WorldAcks.Frame
