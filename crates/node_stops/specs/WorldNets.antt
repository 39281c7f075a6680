-- What `world_nets` has, passed on to the crates above.
pub use Rattle.world_stops.specs.WorldNets.Ends
pub use Rattle.world_stops.specs.WorldNets.Nets
