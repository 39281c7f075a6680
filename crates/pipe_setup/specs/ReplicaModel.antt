-- What `replica_model` has, passed on to the crates above.
pub use Rattle.member_core.specs.ReplicaModel.Entry
pub use Rattle.member_core.specs.ReplicaModel.Histories
pub use Rattle.member_core.specs.ReplicaModel.ReplicaEvent
pub use Rattle.member_core.specs.ReplicaModel.Rows
pub use Rattle.member_core.specs.ReplicaModel.Start
