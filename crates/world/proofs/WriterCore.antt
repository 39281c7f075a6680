-- What `writer_core` has, passed on to the crates above.
pub use Rattle.writer_core.proofs.DueLemmas
pub use Rattle.writer_core.proofs.SoundLemmas
pub use Rattle.writer_core.proofs.StampLemmas
