-- What `replica_files` has, passed on to the crates above.
pub use Rattle.replica_files.specs.Books
pub use Rattle.replica_files.specs.Breaks
pub use Rattle.replica_files.specs.declared.book_state.BookState
