-- What `replica_core` has, passed on to the crates above.
pub use Rattle.replica_core.specs.declared.ack_queue.PendingPacket
pub use Rattle.replica_core.specs.declared.ack_queue.TheConstants
pub use Rattle.replica_core.specs.declared.records.ReplicaRecord
