-- What `replica_files` has, passed on to the crates above.
pub use Rattle.pipe_setup.specs.ReplicaFiles.BookFault
pub use Rattle.pipe_setup.specs.ReplicaFiles.BookState
pub use Rattle.pipe_setup.specs.ReplicaFiles.Books
pub use Rattle.pipe_setup.specs.ReplicaFiles.Endings
