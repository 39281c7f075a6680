-- What `world_primaries` has, passed on to the crates above.
pub use Rattle.world_primaries.specs.Links
