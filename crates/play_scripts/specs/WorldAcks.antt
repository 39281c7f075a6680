-- What `world_acks` has, passed on to the crates above.
pub use Rattle.play_laws.specs.WorldAcks.Acking
pub use Rattle.play_laws.specs.WorldAcks.Closing
pub use Rattle.play_laws.specs.WorldAcks.Waiting
