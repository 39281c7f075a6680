-- What `replica_files` has, passed on to the crates above.
pub use Rattle.block_receiver.specs.ReplicaFiles.BookFault
pub use Rattle.block_receiver.specs.ReplicaFiles.BookState
pub use Rattle.block_receiver.specs.ReplicaFiles.Books
pub use Rattle.block_receiver.specs.ReplicaFiles.Endings
pub use Rattle.block_receiver.specs.ReplicaFiles.Reads
