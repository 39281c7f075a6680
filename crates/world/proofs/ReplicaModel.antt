-- What `replica_model` has, passed on to the crates above.
pub use Rattle.member_core.proofs.ReplicaModel.BlockLemmas
pub use Rattle.member_core.proofs.ReplicaModel.RowLemmas
