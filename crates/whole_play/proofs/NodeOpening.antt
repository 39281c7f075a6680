-- What `node_opening` has, passed on to the crates above.
pub use Rattle.play_report.proofs.NodeOpening.ListLemmas
