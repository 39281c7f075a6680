-- What `world_requests` has, passed on to the crates above.
pub use Rattle.node_opening.specs.WorldRequests.Requests
