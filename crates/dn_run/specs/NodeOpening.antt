-- What `node_opening` has, passed on to the crates above.
pub use Rattle.whole_play.specs.NodeOpening.Listening
