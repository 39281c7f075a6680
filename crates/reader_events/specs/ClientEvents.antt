-- What `client_events` has, passed on to the crates above.
pub use Rattle.client_events.specs.Showing
