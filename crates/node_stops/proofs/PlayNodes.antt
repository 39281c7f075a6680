-- What `play_nodes` has, passed on to the crates above.
pub use Rattle.play_nodes.proofs.JoinNodes
pub use Rattle.play_nodes.proofs.MemberNodes
pub use Rattle.play_nodes.proofs.NodeFrames
pub use Rattle.play_nodes.proofs.Numbers
pub use Rattle.play_nodes.proofs.PlaceLaws
pub use Rattle.play_nodes.proofs.ReadyNodes
pub use Rattle.play_nodes.proofs.SizeLaws
pub use Rattle.play_nodes.proofs.Tables
