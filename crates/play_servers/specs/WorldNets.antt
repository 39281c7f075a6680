-- What `world_nets` has, passed on to the crates above.
pub use Rattle.world_standings.specs.WorldNets.Dials
pub use Rattle.world_standings.specs.WorldNets.Ends
pub use Rattle.world_standings.specs.WorldNets.Nets
pub use Rattle.world_standings.specs.WorldNets.Rows
pub use Rattle.world_standings.specs.WorldNets.Steps
