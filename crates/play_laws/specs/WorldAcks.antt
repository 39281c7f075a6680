-- What `world_acks` has, passed on to the crates above.
pub use Rattle.world_acks.specs.Acking
pub use Rattle.world_acks.specs.Closing
pub use Rattle.world_acks.specs.Waiting
