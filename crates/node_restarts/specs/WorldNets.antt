-- What `world_nets` has, passed on to the crates above.
pub use Rattle.node_opening.specs.WorldNets.Nets
pub use Rattle.node_opening.specs.WorldNets.Rows
