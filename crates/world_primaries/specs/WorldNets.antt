-- What `world_nets` has, passed on to the crates above.
pub use Rattle.world_nets.specs.Changes
pub use Rattle.world_nets.specs.Drawn
pub use Rattle.world_nets.specs.Ends
pub use Rattle.world_nets.specs.Flushing
pub use Rattle.world_nets.specs.Nets
pub use Rattle.world_nets.specs.Rows
pub use Rattle.world_nets.specs.Steps
