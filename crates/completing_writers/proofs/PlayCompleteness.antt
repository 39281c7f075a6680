-- What `play_completeness` has, passed on to the crates above.
pub use Rattle.play_completeness.proofs.Awaiting
pub use Rattle.play_completeness.proofs.Beginning
pub use Rattle.play_completeness.proofs.Flowing
pub use Rattle.play_completeness.proofs.Folding
pub use Rattle.play_completeness.proofs.Keeping
pub use Rattle.play_completeness.proofs.OwnFacts
pub use Rattle.play_completeness.proofs.Plays
pub use Rattle.play_completeness.proofs.ReaderTurns
pub use Rattle.play_completeness.proofs.ScriptBlocks
pub use Rattle.play_completeness.proofs.Whole
