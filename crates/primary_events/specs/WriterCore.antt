-- What `writer_core` has, passed on to the crates above.
pub use Rattle.client_events.specs.WriterCore.Action
pub use Rattle.client_events.specs.WriterCore.Transitions
