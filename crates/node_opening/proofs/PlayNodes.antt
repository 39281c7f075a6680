-- What `play_nodes` has, passed on to the crates above.
pub use Rattle.play_nodes.proofs.Numbers
pub use Rattle.play_nodes.proofs.PlaceLaws
pub use Rattle.play_nodes.proofs.SizeLaws
pub use Rattle.play_nodes.proofs.Tables
pub use Rattle.play_nodes.proofs.WriterKeeping
