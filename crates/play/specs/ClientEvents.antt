-- What `client_events` has, passed on to the crates above.
pub use Rattle.play_dues.specs.ClientEvents.Pipe
pub use Rattle.play_dues.specs.ClientEvents.Said
pub use Rattle.play_dues.specs.ClientEvents.Showing
