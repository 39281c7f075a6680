-- What `replica_core` has, passed on to the crates above.
pub use Rattle.replica_core.specs.Info
pub use Rattle.replica_core.specs.Transitions
pub use Rattle.replica_core.specs.Views
pub use Rattle.replica_core.specs.declared.ack_queue.TheConstants
pub use Rattle.replica_core.specs.declared.events.Event
pub use Rattle.replica_core.specs.declared.info.ReplicaInfo
