-- What `reader_events` has, passed on to the crates above.
pub use Rattle.play_readers.specs.ReaderEvents.Asking
pub use Rattle.play_readers.specs.ReaderEvents.Faults
pub use Rattle.play_readers.specs.ReaderEvents.Hearing
pub use Rattle.play_readers.specs.ReaderEvents.Orders
pub use Rattle.play_readers.specs.ReaderEvents.ReaderFault
