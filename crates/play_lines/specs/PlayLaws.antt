-- What `play_laws` has, passed on to the crates above.
pub use Rattle.play_scripts.specs.PlayLaws.Commands
pub use Rattle.play_scripts.specs.PlayLaws.Intakes
pub use Rattle.play_scripts.specs.PlayLaws.Members
