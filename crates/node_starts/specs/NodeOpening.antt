-- What `node_opening` has, passed on to the crates above.
pub use Rattle.node_restarts.specs.NodeOpening.Closing
pub use Rattle.node_restarts.specs.NodeOpening.Lending
pub use Rattle.node_restarts.specs.NodeOpening.Listening
pub use Rattle.node_restarts.specs.NodeOpening.OpenFault
pub use Rattle.node_restarts.specs.NodeOpening.Opening
pub use Rattle.node_restarts.specs.NodeOpening.Shelves
