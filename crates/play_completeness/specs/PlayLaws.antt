-- What `play_laws` has, passed on to the crates above.
pub use Rattle.play_scripts.specs.PlayLaws.Members
pub use Rattle.play_scripts.specs.PlayLaws.Writers
