-- What `replica_files` has, passed on to the crates above.
pub use Rattle.replica_files.proofs.BookLemmas
pub use Rattle.replica_files.proofs.StepLemmas
