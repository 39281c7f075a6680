-- What `replica_model` has, passed on to the crates above.
pub use Rattle.member_core.specs.ReplicaModel.Found
pub use Rattle.member_core.specs.ReplicaModel.Plans
pub use Rattle.member_core.specs.ReplicaModel.ReplicaEvent
pub use Rattle.member_core.specs.ReplicaModel.Rows
