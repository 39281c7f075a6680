-- What `play_servers` has, passed on to the crates above.
pub use Rattle.play_servers.specs.Events
pub use Rattle.play_servers.specs.Recoveries
pub use Rattle.play_servers.specs.Showing
