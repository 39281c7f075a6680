-- What `replica_files` has, passed on to the crates above.
pub use Rattle.block_recovery.specs.ReplicaFiles.BookState
