-- What `play_scripts` has, passed on to the crates above.
pub use Rattle.play_scripts.specs.Recoveries
