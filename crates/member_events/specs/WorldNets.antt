-- What `world_nets` has, passed on to the crates above.
pub use Rattle.world_texts.specs.WorldNets.Changes
pub use Rattle.world_texts.specs.WorldNets.Dials
pub use Rattle.world_texts.specs.WorldNets.Drawn
pub use Rattle.world_texts.specs.WorldNets.Ends
pub use Rattle.world_texts.specs.WorldNets.Flushing
pub use Rattle.world_texts.specs.WorldNets.Nets
pub use Rattle.world_texts.specs.WorldNets.Rows
pub use Rattle.world_texts.specs.WorldNets.Starts
pub use Rattle.world_texts.specs.WorldNets.Steps
