-- What `replica_files` has, passed on to the crates above.
pub use Rattle.primary_events.specs.ReplicaFiles.BookState
