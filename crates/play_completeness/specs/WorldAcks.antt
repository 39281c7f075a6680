-- What `world_acks` has, passed on to the crates above.
pub use Rattle.play_scripts.specs.WorldAcks.Acking
