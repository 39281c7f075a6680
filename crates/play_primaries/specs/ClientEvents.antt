-- What `client_events` has, passed on to the crates above.
pub use Rattle.primary_events.specs.ClientEvents.Showing
