-- What `play_laws` has, passed on to the crates above.
pub use Rattle.play_laws.specs.Commands
pub use Rattle.play_laws.specs.Intakes
pub use Rattle.play_laws.specs.Members
pub use Rattle.play_laws.specs.Nodes
pub use Rattle.play_laws.specs.Writers
