-- What `replica_model` has, passed on to the crates above.
pub use Rattle.pipe_setup.specs.ReplicaModel.Entry
pub use Rattle.pipe_setup.specs.ReplicaModel.Histories
pub use Rattle.pipe_setup.specs.ReplicaModel.ReplicaEvent
pub use Rattle.pipe_setup.specs.ReplicaModel.Rows
pub use Rattle.pipe_setup.specs.ReplicaModel.Start
