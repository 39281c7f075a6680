-- What `world_nets` has, passed on to the crates above.
pub use Rattle.world_cuts.specs.WorldNets.Dials
pub use Rattle.world_cuts.specs.WorldNets.Ends
pub use Rattle.world_cuts.specs.WorldNets.Nets
pub use Rattle.world_cuts.specs.WorldNets.Steps
