-- What `world` has, passed on to the crates above.
pub use Rattle.world.specs.Clients
pub use Rattle.world.specs.Safe
