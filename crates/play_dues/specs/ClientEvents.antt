-- What `client_events` has, passed on to the crates above.
pub use Rattle.play_clients.specs.ClientEvents.ClientFault
pub use Rattle.play_clients.specs.ClientEvents.Committing
pub use Rattle.play_clients.specs.ClientEvents.Events
pub use Rattle.play_clients.specs.ClientEvents.Pipe
pub use Rattle.play_clients.specs.ClientEvents.Said
pub use Rattle.play_clients.specs.ClientEvents.SettingUp
pub use Rattle.play_clients.specs.ClientEvents.Showing
