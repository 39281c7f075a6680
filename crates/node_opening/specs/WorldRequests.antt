-- What `world_requests` has, passed on to the crates above.
pub use Rattle.play_nodes.specs.WorldRequests.Requests
