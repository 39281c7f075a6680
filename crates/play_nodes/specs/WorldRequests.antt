-- What `world_requests` has, passed on to the crates above.
pub use Rattle.world_requests.specs.Requests
