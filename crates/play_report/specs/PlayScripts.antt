-- What `play_scripts` has, passed on to the crates above.
pub use Rattle.play_scripts.specs.Blocks
pub use Rattle.play_scripts.specs.Failures
pub use Rattle.play_scripts.specs.Fitting
pub use Rattle.play_scripts.specs.Heads
pub use Rattle.play_scripts.specs.Numbering
pub use Rattle.play_scripts.specs.Reads
pub use Rattle.play_scripts.specs.Recoveries
pub use Rattle.play_scripts.specs.Unplayed
pub use Rattle.play_scripts.specs.declared.heads.Head
