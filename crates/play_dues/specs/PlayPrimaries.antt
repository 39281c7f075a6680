-- What `play_primaries` has, passed on to the crates above.
pub use Rattle.play_reads.specs.PlayPrimaries.Clients
pub use Rattle.play_reads.specs.PlayPrimaries.Deed
pub use Rattle.play_reads.specs.PlayPrimaries.Deeds
pub use Rattle.play_reads.specs.PlayPrimaries.Dues
pub use Rattle.play_reads.specs.PlayPrimaries.Frames
pub use Rattle.play_reads.specs.PlayPrimaries.Hearing
pub use Rattle.play_reads.specs.PlayPrimaries.Owning
pub use Rattle.play_reads.specs.PlayPrimaries.PrimaryClient
pub use Rattle.play_reads.specs.PlayPrimaries.PrimaryState
