-- What `writer_core` has, passed on to the crates above.
pub use Rattle.writer_core.specs.Requests
pub use Rattle.writer_core.specs.Transitions
pub use Rattle.writer_core.specs.declared.actions.Action
