-- What `node_opening` has, passed on to the crates above.
pub use Rattle.play_report.specs.NodeOpening.Emptiness
pub use Rattle.play_report.specs.NodeOpening.Listening
pub use Rattle.play_report.specs.NodeOpening.Shelves
