-- What `node_starts` has, passed on to the crates above.
pub use Rattle.node_starts.proofs.StartLemmas
