-- What `play_reads` has, passed on to the crates above.
pub use Rattle.play_opening.specs.PlayReads.Joining
