-- What `node_opening` has, passed on to the crates above.
pub use Rattle.play_scripts.proofs.NodeOpening.ListLemmas
