-- What `reader_events` has, passed on to the crates above.
pub use Rattle.reader_events.specs.Asking
pub use Rattle.reader_events.specs.Faults
pub use Rattle.reader_events.specs.Hearing
pub use Rattle.reader_events.specs.Making
pub use Rattle.reader_events.specs.Orders
pub use Rattle.reader_events.specs.declared.faults.ReaderFault
