-- What `play_nodes` has, passed on to the crates above.
pub use Rattle.node_opening.proofs.PlayNodes.Tables
