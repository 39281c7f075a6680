-- What `replica_model` has, passed on to the crates above.
pub use Rattle.replica_model.proofs.BlockLemmas
pub use Rattle.replica_model.proofs.RowLemmas
