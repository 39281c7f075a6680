-- What `play_recoveries` has, passed on to the crates above.
pub use Rattle.play_recoveries.specs.Dues
pub use Rattle.play_recoveries.specs.Faults
pub use Rattle.play_recoveries.specs.Hearing
pub use Rattle.play_recoveries.specs.Joining
pub use Rattle.play_recoveries.specs.Keeping
pub use Rattle.play_recoveries.specs.Left
pub use Rattle.play_recoveries.specs.Others
pub use Rattle.play_recoveries.specs.Owning
pub use Rattle.play_recoveries.specs.Places
pub use Rattle.play_recoveries.specs.Serving
pub use Rattle.play_recoveries.specs.Showing
pub use Rattle.play_recoveries.specs.Stopping
pub use Rattle.play_recoveries.specs.declared.dues.Dialler
pub use Rattle.play_recoveries.specs.declared.faults.RecoveriesFault
pub use Rattle.play_recoveries.specs.declared.recoveries.Recoveries
