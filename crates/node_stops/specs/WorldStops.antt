-- What `world_stops` has, passed on to the crates above.
pub use Rattle.world_stops.specs.Origins
