-- What `world_nets` has, passed on to the crates above.
pub use Rattle.play_nodes.specs.WorldNets.Nets
pub use Rattle.play_nodes.specs.WorldNets.Rows
