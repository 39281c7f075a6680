-- What `replica_model` has, passed on to the crates above.
pub use Rattle.world.specs.ReplicaModel.Found
pub use Rattle.world.specs.ReplicaModel.ReplicaEvent
pub use Rattle.world.specs.ReplicaModel.Rows
