-- What `replica_files` has, passed on to the crates above.
pub use Rattle.play.specs.ReplicaFiles.BookState
