-- What `play_nodes` has, passed on to the crates above.
pub use Rattle.play_nodes.specs.Dues
pub use Rattle.play_nodes.specs.Showing
pub use Rattle.play_nodes.specs.declared.connections.Connection
pub use Rattle.play_nodes.specs.declared.connections.Lower
pub use Rattle.play_nodes.specs.declared.connections.Upper
pub use Rattle.play_nodes.specs.declared.nodes.Nodes
