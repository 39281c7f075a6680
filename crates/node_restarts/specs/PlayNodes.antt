-- What `play_nodes` has, passed on to the crates above.
pub use Rattle.node_opening.specs.PlayNodes.Connection
pub use Rattle.node_opening.specs.PlayNodes.Lower
pub use Rattle.node_opening.specs.PlayNodes.NodeBooks
pub use Rattle.node_opening.specs.PlayNodes.Nodes
pub use Rattle.node_opening.specs.PlayNodes.Places
pub use Rattle.node_opening.specs.PlayNodes.Showing
