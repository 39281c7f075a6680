-- What `node_opening` has, passed on to the crates above.
pub use Rattle.node_starts.specs.NodeOpening.Listening
pub use Rattle.node_starts.specs.NodeOpening.OpenFault
pub use Rattle.node_starts.specs.NodeOpening.Opening
pub use Rattle.node_starts.specs.NodeOpening.Shelves
