-- What `replica_core` has, passed on to the crates above.
pub use Rattle.member_core.specs.ReplicaCore.Event
pub use Rattle.member_core.specs.ReplicaCore.Views
