-- What `play_scripts` has, passed on to the crates above.
pub use Rattle.play_report.specs.PlayScripts.Failures
pub use Rattle.play_report.specs.PlayScripts.Fitting
pub use Rattle.play_report.specs.PlayScripts.Head
pub use Rattle.play_report.specs.PlayScripts.Heads
pub use Rattle.play_report.specs.PlayScripts.Reads
pub use Rattle.play_report.specs.PlayScripts.Unplayed
