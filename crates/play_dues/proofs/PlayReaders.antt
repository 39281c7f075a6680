-- What `play_readers` has, passed on to the crates above.
pub use Rattle.play_reads.proofs.PlayReaders.AskLaws
