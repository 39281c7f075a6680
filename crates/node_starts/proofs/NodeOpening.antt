-- What `node_opening` has, passed on to the crates above.
pub use Rattle.node_restarts.proofs.NodeOpening.CloseLemmas
pub use Rattle.node_restarts.proofs.NodeOpening.ListLemmas
pub use Rattle.node_restarts.proofs.NodeOpening.OpenLemmas
