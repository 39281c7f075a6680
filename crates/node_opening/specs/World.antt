-- What `world` has, passed on to the crates above.
pub use Rattle.play_nodes.specs.World.Parts
pub use Rattle.play_nodes.specs.World.Restarts
