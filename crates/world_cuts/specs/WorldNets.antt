-- What `world_nets` has, passed on to the crates above.
pub use Rattle.world_nets.specs.Dials
pub use Rattle.world_nets.specs.Ends
pub use Rattle.world_nets.specs.Nets
pub use Rattle.world_nets.specs.Rows
pub use Rattle.world_nets.specs.Steps
