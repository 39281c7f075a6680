-- What `node_opening` has, passed on to the crates above.
pub use Rattle.play_scripts.specs.NodeOpening.Closing
pub use Rattle.play_scripts.specs.NodeOpening.Emptiness
pub use Rattle.play_scripts.specs.NodeOpening.Laws
pub use Rattle.play_scripts.specs.NodeOpening.Listening
pub use Rattle.play_scripts.specs.NodeOpening.OpenFault
pub use Rattle.play_scripts.specs.NodeOpening.Opening
pub use Rattle.play_scripts.specs.NodeOpening.Shelves
pub use Rattle.play_scripts.specs.NodeOpening.Standing
