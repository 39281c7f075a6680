-- What `play_nodes` has, passed on to the crates above.
pub use Rattle.play_nodes.specs.Beginning
pub use Rattle.play_nodes.specs.Dues
pub use Rattle.play_nodes.specs.Events
pub use Rattle.play_nodes.specs.Frames
pub use Rattle.play_nodes.specs.Places
pub use Rattle.play_nodes.specs.Refusing
pub use Rattle.play_nodes.specs.Showing
pub use Rattle.play_nodes.specs.declared.connections.Connection
pub use Rattle.play_nodes.specs.declared.connections.Upper
pub use Rattle.play_nodes.specs.declared.faults.NodesFault
pub use Rattle.play_nodes.specs.declared.nodes.NodeBooks
pub use Rattle.play_nodes.specs.declared.nodes.Nodes
