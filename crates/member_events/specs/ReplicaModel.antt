-- What `replica_model` has, passed on to the crates above.
pub use Rattle.pipe_member.specs.ReplicaModel.Entry
pub use Rattle.pipe_member.specs.ReplicaModel.Histories
pub use Rattle.pipe_member.specs.ReplicaModel.ReplicaEvent
pub use Rattle.pipe_member.specs.ReplicaModel.Rows
pub use Rattle.pipe_member.specs.ReplicaModel.Start
