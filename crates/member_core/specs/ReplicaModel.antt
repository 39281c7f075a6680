-- What `replica_model` has, passed on to the crates above.
pub use Rattle.replica_model.specs.Found
pub use Rattle.replica_model.specs.Histories
pub use Rattle.replica_model.specs.Plans
pub use Rattle.replica_model.specs.Rows
pub use Rattle.replica_model.specs.declared.events.ReplicaEvent
pub use Rattle.replica_model.specs.declared.histories.Entry
pub use Rattle.replica_model.specs.declared.histories.Start
