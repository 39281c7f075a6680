-- What `replica_files` has, passed on to the crates above.
pub use Rattle.member_events.specs.ReplicaFiles.BookState
pub use Rattle.member_events.specs.ReplicaFiles.Books
pub use Rattle.member_events.specs.ReplicaFiles.Endings
