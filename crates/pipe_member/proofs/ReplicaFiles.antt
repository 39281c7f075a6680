-- What `replica_files` has, passed on to the crates above.
pub use Rattle.pipe_setup.proofs.ReplicaFiles.BookLemmas
