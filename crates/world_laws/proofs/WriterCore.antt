-- What `writer_core` has, passed on to the crates above.
pub use Rattle.world.proofs.WriterCore.SoundLemmas
pub use Rattle.world.proofs.WriterCore.StampLemmas
