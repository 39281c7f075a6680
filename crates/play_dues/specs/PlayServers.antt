-- What `play_servers` has, passed on to the crates above.
pub use Rattle.play_reads.specs.PlayServers.Events
pub use Rattle.play_reads.specs.PlayServers.Recoveries
pub use Rattle.play_reads.specs.PlayServers.Showing
