-- What `play_reads` has, passed on to the crates above.
pub use Rattle.play_reads.specs.Faults
pub use Rattle.play_reads.specs.Hearing
pub use Rattle.play_reads.specs.Joining
pub use Rattle.play_reads.specs.Keeping
pub use Rattle.play_reads.specs.Left
pub use Rattle.play_reads.specs.Owning
pub use Rattle.play_reads.specs.Places
pub use Rattle.play_reads.specs.Serving
pub use Rattle.play_reads.specs.Showing
pub use Rattle.play_reads.specs.Stopping
pub use Rattle.play_reads.specs.declared.faults.ReadsFault
pub use Rattle.play_reads.specs.declared.reads.Reads
