-- What `node_opening` has, passed on to the crates above.
pub use Rattle.node_opening.proofs.ListLemmas
pub use Rattle.node_opening.proofs.ListenLemmas
