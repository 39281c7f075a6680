-- What `replica_model` has, passed on to the crates above.
pub use Rattle.replica_model.specs.Rows
pub use Rattle.replica_model.specs.declared.events.ReplicaEvent
