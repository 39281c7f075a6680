-- What `replica_files` has, passed on to the crates above.
pub use Rattle.pipe_member.specs.ReplicaFiles.BookFault
pub use Rattle.pipe_member.specs.ReplicaFiles.BookState
pub use Rattle.pipe_member.specs.ReplicaFiles.Books
pub use Rattle.pipe_member.specs.ReplicaFiles.Endings
