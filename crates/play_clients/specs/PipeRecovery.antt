-- What `pipe_recovery` has, passed on to the crates above.
pub use Rattle.client_events.specs.PipeRecovery.Dialling
pub use Rattle.client_events.specs.PipeRecovery.Link
