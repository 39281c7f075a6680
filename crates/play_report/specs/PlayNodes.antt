-- What `play_nodes` has, passed on to the crates above.
pub use Rattle.play_scripts.specs.PlayNodes.NodeBooks
pub use Rattle.play_scripts.specs.PlayNodes.Nodes
pub use Rattle.play_scripts.specs.PlayNodes.Showing
