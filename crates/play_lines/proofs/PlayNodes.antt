-- What `play_nodes` has, passed on to the crates above.
pub use Rattle.play_scripts.proofs.PlayNodes.WriterKeeping
