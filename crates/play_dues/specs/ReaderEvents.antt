-- What `reader_events` has, passed on to the crates above.
pub use Rattle.play_reads.specs.ReaderEvents.Asking
pub use Rattle.play_reads.specs.ReaderEvents.Orders
