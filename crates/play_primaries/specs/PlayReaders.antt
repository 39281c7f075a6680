-- What `play_readers` has, passed on to the crates above.
pub use Rattle.play_readers.specs.Asks
pub use Rattle.play_readers.specs.Clients
pub use Rattle.play_readers.specs.Dues
pub use Rattle.play_readers.specs.Frames
pub use Rattle.play_readers.specs.Hearing
pub use Rattle.play_readers.specs.Owning
pub use Rattle.play_readers.specs.Staying
pub use Rattle.play_readers.specs.declared.clients.ReadClient
pub use Rattle.play_readers.specs.declared.clients.ReadState
