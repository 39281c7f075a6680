-- What `replica_model` has, passed on to the crates above.
pub use Rattle.member_events.specs.ReplicaModel.Entry
pub use Rattle.member_events.specs.ReplicaModel.Histories
pub use Rattle.member_events.specs.ReplicaModel.Rows
pub use Rattle.member_events.specs.ReplicaModel.Start
