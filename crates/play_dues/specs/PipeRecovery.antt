-- What `pipe_recovery` has, passed on to the crates above.
pub use Rattle.play_clients.specs.PipeRecovery.Dialling
pub use Rattle.play_clients.specs.PipeRecovery.Link
