-- What `node_opening` has, passed on to the crates above.
pub use Rattle.play_scripts.specs.NodeOpening.Listening
pub use Rattle.play_scripts.specs.NodeOpening.Shelves
