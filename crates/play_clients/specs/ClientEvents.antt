-- What `client_events` has, passed on to the crates above.
pub use Rattle.client_events.specs.Committing
pub use Rattle.client_events.specs.Events
pub use Rattle.client_events.specs.SettingUp
pub use Rattle.client_events.specs.Showing
pub use Rattle.client_events.specs.declared.acting.Said
pub use Rattle.client_events.specs.declared.faults.ClientFault
pub use Rattle.client_events.specs.declared.pipes.Pipe
