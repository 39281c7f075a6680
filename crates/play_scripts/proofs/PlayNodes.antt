-- What `play_nodes` has, passed on to the crates above.
pub use Rattle.node_opening.proofs.PlayNodes.Numbers
pub use Rattle.node_opening.proofs.PlayNodes.PlaceLaws
pub use Rattle.node_opening.proofs.PlayNodes.SizeLaws
pub use Rattle.node_opening.proofs.PlayNodes.Tables
pub use Rattle.node_opening.proofs.PlayNodes.WriterKeeping
