-- What `play_reads` has, passed on to the crates above.
pub use Rattle.play_dues.specs.PlayReads.Joining
pub use Rattle.play_dues.specs.PlayReads.Places
pub use Rattle.play_dues.specs.PlayReads.Reads
