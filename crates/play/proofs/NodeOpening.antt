-- What `node_opening` has, passed on to the crates above.
pub use Rattle.node_starts.proofs.NodeOpening.ListLemmas
pub use Rattle.node_starts.proofs.NodeOpening.OpenLemmas
